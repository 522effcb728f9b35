-- The audit of a committed query depends on nothing that a longer history changes.
use Rattle.std.proofs.Common.{◌≡◌, ℕ, zero, suc, ℤ, ◌+◌, ◌*◌, List, [], ◌∷◌, ◌++◌, length, Bool, true, false, cond, ◌&&◌, ◌==◌, refl, sym, ◌∙◌, ap, subst, arith, inl, inr, Option, None, Some, if◌then◌else◌, add-zero, zero-add, add-one, ◌⊎◌, append-nil, append_assoc, is_some}
use Rattle.std.specs.List.{filter_map, list_any, cons_option, slice_get}
use Rattle.std.proofs.lemmas.Bool.{true≢false, eq-eqb, ne_eqb, and_parts, or_left, or_right}
use Rattle.std.proofs.lemmas.Option.{same_Some}
use Rattle.std.proofs.lemmas.List.Folds.{list_any-append}
use Rattle.esr_history.specs.Events.{BeginRecord, is_refusal, begin_record, begin_record_of, begin_records, txn_numbers, is_query, is_update, is_begun, is_active, is_committed, holds_read, read_count, current_value, TxnId, ItemId, Event, BeginUpdate, BeginQuery, Read, Write, Commit, Abort, Reply, Begun, Value, Wrote, Committed, Aborted, Refused, Refusal, Entry}
use Rattle.esr_history.specs.Machine.{DistanceFunction, Schedule, Charge, accepted_in, extended, empty_schedule, value_distance, due_in, charge_of_write, import_in, reply_to, reasons, refusal, acceptance, answered, IsLegal, IsLegalAfter}
use Rattle.esr_history.specs.Legal.{continued, legal_induction, legal_induction_after}
use Rattle.esr_history.specs.Queries.{begins}
use Rattle.esr_history.proofs.Lists.{filter_map_push}
use Rattle.esr_history.proofs.Allowed.{NoneApplies, none_applies, read_allowed, write_allowed}
use Rattle.esr_history.proofs.LegalWellFormed.{done-refused, done-accepted, not_ended}
use Rattle.esr_history.proofs.WellFormed.{begin_record-unchanged, active_parts}
use Rattle.esr_history.proofs.Traces.{Trace, read_of, write_of, with_abort, with_begins, with_commit, with_operation}
use Rattle.esr_history.proofs.Locking.{known}
use Rattle.esr_history.proofs.Stable.{SameFor, same_with_begins, same_with_operation, same_with_commit, same_with_abort}
use Rattle.esr_history.proofs.TraceAgreement.{trace, committed_among, active_trace, aborter}
use Rattle.esr_history.proofs.TraceOfHistory.{IsReached, imports, import-cons, refused_trace, refused_imports, with_imports, operation_trace, begin_trace, commit_trace, abort_trace, begins_kept, reached_step, legal_reached}
use Rattle.esr_history.specs.Operations.{committer, operation_by}

-- a query that the charges do not name is charged nothing
unnamed : (f : ℕ → Option Charge) (q : ℕ) → ((p : ℕ) (c : Charge) → f p ≡ Some c → c.query ≡ q → ⊥) → (ns : List ℕ) → import_in (filter_map f ns) q ≡ 0
unnamed f q other [] = refl
unnamed f q other (p ∷ ns) = at (f p) refl (unnamed f q other ns)
  where
    at : (o : Option Charge) → f p ≡ o → import_in (filter_map f ns) q ≡ 0 → import_in (cons_option o (filter_map f ns)) q ≡ 0
    at None is rest = rest
    at (Some c) is rest = import-cons c (filter_map f ns) q ∙ (ap (λ b. cond b c.amount 0 + import_in (filter_map f ns) q) (ne_eqb c.query q (other p c is)) ∙ (zero-add (import_in (filter_map f ns) q) ∙ rest))

module _ (d : DistanceFunction) (h : Schedule) (q : ℕ) (over : is_committed (accepted_in h) q ≡ true) where
  not_active : is_active (accepted_in h) q ≡ true → ⊥
  not_active act = true≢false (sym over ∙ (active_parts (accepted_in h) q act).1)

  -- an event charges nothing to a query that has ended
  read_free : (t : TxnId) (x : ItemId) → is_active (accepted_in h) t.0 ≡ true → import_in (due_in d h (Read t x)) q ≡ 0
  read_free t x act = grind (arith, import-cons, cond, ne_eqb, not_active)

  write_free : (t : TxnId) (x : ItemId) (v : ℤ) → import_in (due_in d h (Write t x v)) q ≡ 0
  write_free t x v = at (is_update (accepted_in h) t.0)
    where
      charge : ℕ → Option Charge
      charge = charge_of_write (value_distance d h) h.opening (accepted_in h) t.0 x.0 v

      other : (p : ℕ) (c : Charge) → charge p ≡ Some c → c.query ≡ q → ⊥
      other p c is own = given (is_query (accepted_in h) p && holds_read (accepted_in h) p x.0) refl is
        where
          given : (b : Bool) → (is_query (accepted_in h) p && holds_read (accepted_in h) p x.0) ≡ b
              → (if b then Some (record { query = p; update = t.0; amount = read_count (accepted_in h) p x.0 * value_distance d h x.0 v (current_value h.opening (accepted_in h) x.0) }) else None) ≡ Some c → ⊥
          given false passes some = cc
          given true passes some =
              grind (arith, same_Some, and_parts (is_query (accepted_in h) p) (holds_read (accepted_in h) p x.0) passes, not_active, and_parts)

      at : (b : Bool) → import_in (if b then filter_map charge (txn_numbers (accepted_in h)) else []) q ≡ 0
      at false = refl
      at true = unnamed charge q other (txn_numbers (accepted_in h))

-- the history h so far has the data of the audit of q in g
pub record IsAfter (d : DistanceFunction) (g : Schedule) (q : ℕ) (h : Schedule) : Type 0 where
  pub reached : IsReached d h
  pub same : SameFor q (trace g) (trace h)
  pub imported : imports d h q ≡ imports d g q

module _ (d : DistanceFunction) (g : Schedule) (q : ℕ) (h : Schedule) (after : IsAfter d g q h) where
  over : is_committed (accepted_in h) q ≡ true
  over = committed_among (accepted_in h) q ∙ after.same.committed

  from : (e : Event) (r : Reply) → r ≡ reply_to d h e → (t : Trace) → trace (extended h e r) ≡ t → SameFor q (trace g) t → imports d (extended h e r) q ≡ imports d h q → IsAfter d g q (extended h e r)
  from e r is t is_trace same imported = grind (arith, reached_step d h e r is after.reached, trace g)

  uncharged : (e : Event) (r : Reply) → is_refusal r ≡ false → import_in (due_in d h e) q ≡ 0 → imports d (extended h e r) q ≡ imports d h q
  uncharged e r is free = with_imports d h e r is q ∙ (ap (λ n. imports d h q + n) free ∙ add-zero (imports d h q))

  begun_after : (e : Event) (r : Reply) → r ≡ reply_to d h e → is_refusal r ≡ false → operation_by e r ≡ None → committer e ≡ None → aborter e ≡ None → import_in (due_in d h e) q ≡ 0 → IsAfter d g q (extended h e r)
  begun_after e r is accepts o c a free =
      from e r is (with_begins (trace h) (begin_record (accepted_in h ++ e ∷ []))) (begin_trace d h e r accepts o c a)
      (same_with_begins q (trace g) (trace h) (begin_record (accepted_in h ++ e ∷ [])) (begins_kept d h e) (known after.reached) after.same) (uncharged e r accepts free)

  accepted_after : (e : Event) → acceptance h e ≡ reply_to d h e → NoneApplies (reasons d h e) → IsAfter d g q (extended h e (acceptance h e))
  accepted_after (Read t x) is none =
      let act : is_active (accepted_in h) t.0 ≡ true = not_ended h t.0 (read_allowed d h t x none).active in
      let r : Reply = Value (current_value h.opening (accepted_in h) x.0) in
      let o = read_of t.0 x.0 (current_value h.opening (accepted_in h) x.0) in
      from (Read t x) r is (with_operation (trace h) o) (operation_trace d h (Read t x) r o refl refl refl refl refl)
      (same_with_operation q (trace g) (trace h) o (active_trace h t.0 act).open_ended after.same) (uncharged (Read t x) r refl (read_free d h q over t x act))
  accepted_after (Write t x v) is none =
      let act : is_active (accepted_in h) t.0 ≡ true = not_ended h t.0 (write_allowed d h t x v none).uncharged.active in
      from (Write t x v) Wrote is (with_operation (trace h) (write_of t.0 x.0 v)) (operation_trace d h (Write t x v) Wrote (write_of t.0 x.0 v) refl refl refl refl refl)
      (same_with_operation q (trace g) (trace h) (write_of t.0 x.0 v) (active_trace h t.0 act).open_ended after.same) (uncharged (Write t x v) Wrote refl (write_free d h q over t x v))
  accepted_after (Commit t) is none =
      from (Commit t) Committed is (with_commit (trace h) t.0) (commit_trace d h t) (same_with_commit q (trace g) (trace h) t.0 after.same) (uncharged (Commit t) Committed refl refl)
  accepted_after (Abort t) is none =
      from (Abort t) Aborted is (with_abort (trace h) t.0) (abort_trace d h t) (same_with_abort q (trace g) (trace h) t.0 after.same) (uncharged (Abort t) Aborted refl refl)
  accepted_after e is none = begun_after e (acceptance h e) is refl refl refl refl refl

  IsAfter-extended : (e : Event) (r : Reply) → r ≡ reply_to d h e → IsAfter d g q (extended h e r)
  IsAfter-extended e r is = at (refusal d h e) refl
    where
      at : (why : Option Refusal) → refusal d h e ≡ why → IsAfter d g q (extended h e r)
      at None none =
          let answer : r ≡ acceptance h e = is ∙ ap (λ w. answered w (acceptance h e)) none in
          subst (λ w. IsAfter d g q (extended h e w)) (sym answer) (accepted_after e (sym answer ∙ is) (none_applies (reasons d h e) none))
      at (Some why) some =
          let answer : r ≡ Refused why = is ∙ ap (λ w. answered w (acceptance h e)) some in
          subst (λ w. IsAfter d g q (extended h e w)) (sym answer)
          (from e (Refused why) (sym answer ∙ is) (trace h) (refused_trace d h e why) after.same (ap (λ (m : ℕ → ℕ). m q) (refused_imports d h e why)))

-- a legal history in two parts
pub legal_parts : (d : DistanceFunction) (before : Schedule) (xs ys : List Entry) → IsLegalAfter d before (xs ++ ys) → IsLegalAfter d before xs × IsLegalAfter d (continued before xs) ys
legal_parts d before [] ys legal = (tt, subst (λ (es : List Entry). IsLegalAfter d (record before { entries = es }) ys) (sym (append-nil before.entries)) legal)
legal_parts d before (e ∷ xs) ys legal =
    grind (arith, legal_parts d (extended before e.event e.reply) xs ys legal.1, append_assoc before.entries (e ∷ []) xs)

pub legal_front : (d : DistanceFunction) (h : Schedule) (rest : List Entry) → IsLegal d (continued h rest) → IsLegal d h
legal_front d h rest legal = (legal_parts d (empty_schedule h) h.entries rest legal).0

pub legal_after : (d : DistanceFunction) (h : Schedule) (rest : List Entry) (q : ℕ) → IsLegal d (continued h rest) → is_committed (accepted_in h) q ≡ true → IsAfter d h q (continued h rest)
legal_after d h rest q legal over =
    legal_induction_after d (IsAfter d h q) (λ g e r is after. IsAfter-extended d h q g after e r is) h rest (legal_parts d (empty_schedule h) h.entries rest legal).1
    (record {
      reached = legal_reached d h (legal_front d h rest legal);
      same = record { committed = sym (committed_among (accepted_in h) q) ∙ over; begins = refl; updates = refl; reads = refl; writes = λ u x i. refl; order = λ u v iu iv. refl };
      imported = refl;
    })

-- each transaction that has begun has the entry whose reply is its number
abbrev pub HasBegins : Schedule → Type 0
HasBegins h = (u : ℕ) → is_begun (accepted_in h) u ≡ true → list_any (λ (n : Entry). begins u n.reply) h.entries ≡ true

module _ (d : DistanceFunction) (h : Schedule) (has : HasBegins h) where
  begun_before : (e : Event) (r : Reply) (u : ℕ) → is_begun (accepted_in h) u ≡ true → list_any (λ (n : Entry). begins u n.reply) (extended h e r).entries ≡ true
  begun_before e r u begun = grind (arith, list_any-append, or_left)

  -- an event that begins nothing
  no_begin : (e : Event) (r : Reply) → ((u : ℕ) → is_begun (accepted_in (extended h e r)) u ≡ is_begun (accepted_in h) u) → HasBegins (extended h e r)
  no_begin e r same u begun = begun_before e r u (sym (same u) ∙ begun)

  other_begin : (e : Event) (r : Reply) → is_refusal r ≡ false → begin_record_of e ≡ None → HasBegins (extended h e r)
  other_begin e r is none = no_begin e r (λ u. ap (λ (es : List Event). is_begun es u) (done-accepted h e r is) ∙ ap is_some (begin_record-unchanged (accepted_in h) e u none))

  new_begin : (e : Event) (b : BeginRecord) (n : TxnId) → begin_record_of e ≡ Some b → n.0 ≡ length (begin_records (accepted_in h)) + 1 → HasBegins (extended h e (Begun n))
  new_begin e b n is own zero begun = absurd (true≢false (sym (sym (ap (λ (es : List Event). is_begun es zero) (done-accepted h e (Begun n) refl)) ∙ begun)))
  new_begin e b n is own (suc k) begun =
      elim (last_cases (begin_records (accepted_in h)) k (ap (λ (bs : List BeginRecord). is_some (slice_get bs k)) (sym grown) ∙ begun)) [
        | inl before ↦ begun_before e (Begun n) (suc k) before
        | inr last ↦
            list_any-append (λ (n : Entry). begins (suc k) n.reply) h.entries (record { event = e; reply = Begun n } ∷ [])
            ∙ or_right (list_any (λ (n : Entry). begins (suc k) n.reply) h.entries) (list_any (λ (n : Entry). begins (suc k) n.reply) (record { event = e; reply = Begun n } ∷ []))
            (or_left (n.0 == suc k) false (eq-eqb n.0 (suc k) (own ∙ (ap (λ m. m + 1) (sym last) ∙ add-one k))))
      ]
    where
      grown : begin_records (accepted_in (extended h e (Begun n))) ≡ begin_records (accepted_in h) ++ b ∷ []
      grown = ap begin_records (done-accepted h e (Begun n) refl) ∙ (filter_map_push begin_record_of (accepted_in h) e ∙ ap (λ o. begin_records (accepted_in h) ++ cons_option o []) is)

      last_cases : (xs : List BeginRecord) (j : ℕ) → is_some (slice_get (xs ++ b ∷ []) j) ≡ true → (is_some (slice_get xs j) ≡ true) ⊎ (j ≡ length xs)
      last_cases [] zero some = inr refl
      last_cases [] (suc j) some = absurd (true≢false (sym some))
      last_cases (x ∷ xs) zero some = inl refl
      last_cases (x ∷ xs) (suc j) some = elim (last_cases xs j some) [ inl before ↦ inl before | inr last ↦ inr (omega (arith, last)) ]

  begins_step : (e : Event) (r : Reply) → r ≡ reply_to d h e → HasBegins (extended h e r)
  begins_step e r is = at (refusal d h e) refl
    where
      accepted_begins : (e : Event) → HasBegins (extended h e (acceptance h e))
      accepted_begins (BeginUpdate l) = new_begin (BeginUpdate l) (record { query = false; strict = false; limit = l }) (record { 0 = length (begin_records (accepted_in h)) + 1 }) refl refl
      accepted_begins (BeginQuery l s) = new_begin (BeginQuery l s) (record { query = true; strict = s; limit = l }) (record { 0 = length (begin_records (accepted_in h)) + 1 }) refl refl
      accepted_begins (Read t x) = other_begin (Read t x) (Value (current_value h.opening (accepted_in h) x.0)) refl refl
      accepted_begins (Write t x v) = other_begin (Write t x v) Wrote refl refl
      accepted_begins (Commit t) = other_begin (Commit t) Committed refl refl
      accepted_begins (Abort t) = other_begin (Abort t) Aborted refl refl

      at : (why : Option Refusal) → refusal d h e ≡ why → HasBegins (extended h e r)
      at None none = grind (arith, accepted_begins e)
      at (Some why) some = grind (arith, no_begin, done-refused h e why)

pub has_begins : (d : DistanceFunction) (h : Schedule) → IsLegal d h → HasBegins h
has_begins d h legal = legal_induction d HasBegins (λ g e r is has. begins_step d g has e r is) h none legal
  where
    none : HasBegins (empty_schedule h)
    none zero begun = absurd (true≢false (sym begun))
    none (suc k) begun = absurd (true≢false (sym begun))
