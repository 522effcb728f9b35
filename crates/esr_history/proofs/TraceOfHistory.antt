-- Each legal history reaches its trace.
use Rattle.std.proofs.Common.{◌≡◌, ℕ, zero, suc, ℤ, ◌+◌, ◌*◌, ◌<◌, ◌≤◌, List, [], ◌∷◌, ◌++◌, length, Bool, true, false, cond, not, ◌&&◌, ◌||◌, ◌==◌, ◌⊎◌, refl, sym, ◌∙◌, ap, subst, arith, inl, inr, Option, None, Some, if◌then◌else◌, filter, eqb, count_by, append-nil, add-zero, is_some, find}
use Rattle.std.specs.List.{filter_map, list_any, cons_option, range_with_len}
use Rattle.std.proofs.Math.Path.{fun_ext}
use Rattle.std.proofs.Math.Nat.{le_trans}
use Rattle.std.proofs.lemmas.Bool.{cases_Bool, true≢false, cases_eq, eq-eqb, ne_eqb, and_from, or_parts}
use Rattle.std.proofs.lemmas.List.Elements.{filter_map-append, filter-append}
use Rattle.std.proofs.lemmas.List.Sums.{sum_by-cons}
use Rattle.esr_items.specs.Values.{value_at}
use Rattle.esr_history.specs.Events.{BeginRecord, is_refusal, begin_record, begin_record_of, begin_records, txn_numbers, is_query, is_update, is_active, holds_read, holds_write, reads, read_count, committed_value, current_value, ItemId, TxnId, Event, Read, Write, Commit, Abort, Reply, Value, Wrote, Committed, Aborted, Refused, Refusal, BlockedByLock}
use Rattle.esr_history.specs.Machine.{DistanceFunction, Schedule, Charge, accepted_in, extended, value_distance, charges, charges_in, due_in, charge_of_read, charge_of_write, import_in, writer, other_writer, other_holder, blocked_by, reply_to, reasons, refusal, acceptance, answered, IsLegal}
use Rattle.esr_history.specs.Legal.{legal_induction}
use Rattle.esr_history.specs.Operations.{Operation, operation_by, operations, committer, commit_order}
use Rattle.esr_history.proofs.Lists.{filter_map_push, find_none, option_map_none}
use Rattle.esr_history.proofs.WellFormed.{begin_record-push, begin_record-unchanged, update_begun, active_parts}
use Rattle.esr_history.proofs.Allowed.{NoneApplies, none_applies, read_allowed, write_allowed, end_allowed}
use Rattle.esr_history.proofs.LegalWellFormed.{done-refused, done-accepted, not_ended, begun_in_range, update_from, when_none}
use Rattle.esr_history.proofs.Charges.{import-push}
use Rattle.esr_history.proofs.Membership.{In, any-from_In}
use Rattle.esr_history.proofs.Traces.{Setting, Trace, Keeps, ended_in, query_in, read_of, write_of, current_in, committed_in, read_count_in, Active, NoOtherWriter, NoOtherUser, with_operation, with_commit, with_abort, with_begins, Reached, Reached.nothing, IsKept, reached_kept}
use Rattle.esr_history.proofs.Versions.{wrote_by}
use Rattle.esr_history.proofs.TraceAgreement.{query_not_update, trace, aborter, read_item_by, wrote_trace, read_trace, reads_trace, committed_trace, current_trace, active_trace, trace_active}

abbrev pub setting : DistanceFunction → Schedule → Setting
setting d h = record { opening = value_at h.opening; distance = value_distance d h }

abbrev pub imports : DistanceFunction → Schedule → ℕ → ℕ
imports d h = import_in (charges_in d h)

abbrev pub IsReached : DistanceFunction → Schedule → Type 0
IsReached d h = Reached (setting d h) (trace h) (imports d h)

-- operations after one more entry
pub operations-refused : (h : Schedule) (e : Event) (why : Refusal) → operations (extended h e (Refused why)) ≡ operations h
operations-refused h e why = grind (arith, filter-append, append-nil, filter)

pub operations-accepted : (h : Schedule) (e : Event) (r : Reply) → is_refusal r ≡ false → operations (extended h e r) ≡ operations h ++ cons_option (operation_by e r) []
operations-accepted h e r is = grind (arith, filter-append, filter, filter_map-append)

pub count_none : {X : Type 0} (p : X → Bool) (xs : List X) → list_any p xs ≡ false → count_by p xs ≡ 0
count_none p [] h = refl
count_none p (x ∷ xs) h =
    let r = or_parts (p x) (list_any p xs) h in
    sum_by-cons (λ y. cond (p y) 1 0) x xs ∙ (ap (λ b. cond b 1 0 + count_by p xs) r.0 ∙ ap (λ z. 0 + z) (count_none p xs r.1))

pub import-cons : (c : Charge) (cs : List Charge) (q : ℕ) → import_in (c ∷ cs) q ≡ cond (eqb c.query q) c.amount 0 + import_in cs q
import-cons c cs q = sum_by-cons (λ (c : Charge). cond (eqb c.query q) c.amount 0) c cs

first_amount : (c : Charge) (cs : List Charge) → c.amount ≤ import_in (c ∷ cs) c.query
first_amount c cs = rw (import-cons c cs c.query, eq-eqb c.query c.query refl) (omega arith)

-- the charge of one of the numbers
amount_listed : (f : ℕ → Option Charge) (c : Charge) (q a n : ℕ) → f q ≡ Some c → c.query ≡ q → a ≤ q → q < a + n → c.amount ≤ import_in (filter_map f (range_with_len a n)) q
amount_listed f c q a zero is own low high = absurd (omega arith)
amount_listed f c q a (suc n) is own low high =
    elim (cases_eq a q) [
      | inl e ↦
          let here : f a ≡ Some c = ap f e ∙ is in
          rw here (subst (λ k. c.amount ≤ import_in (c ∷ filter_map f (range_with_len (a + 1) n)) k) own (first_amount c (filter_map f (range_with_len (a + 1) n))))
      | inr ne ↦ le_trans (amount_listed f c q (a + 1) n is own (omega arith) (omega arith)) (more (f a) (filter_map f (range_with_len (a + 1) n)))
    ]
  where
    more : (o : Option Charge) (cs : List Charge) → import_in cs q ≤ import_in (cons_option o cs) q
    more None cs = omega arith
    more (Some e) cs = rw (import-cons e cs q) (omega arith)

and_right_false : (a b : Bool) → a ≡ true → (a && b) ≡ false → b ≡ false
and_right_false true b is fails = fails
and_right_false false b is fails = absurd (true≢false (sym is))

module _ (d : DistanceFunction) (h : Schedule) where
  -- the trace after an accepted event, from its additions
  grown : (e : Event) (r : Reply) → is_refusal r ≡ false → (os : List Operation) (cs rs : List ℕ) (b : ℕ → Option BeginRecord)
      → operations h ++ cons_option (operation_by e r) [] ≡ os → commit_order (accepted_in h) ++ cons_option (committer e) [] ≡ cs → filter_map aborter (accepted_in h) ++ cons_option (aborter e) [] ≡ rs → begin_record (accepted_in h ++ e ∷ []) ≡ b
      → trace (extended h e r) ≡ record { operations = os; commits = cs; aborts = rs; begin_record = b }
  grown e r is os cs rs b o c a g =
      let events : accepted_in (extended h e r) ≡ accepted_in h ++ e ∷ [] = done-accepted h e r is in
      let os' : operations (extended h e r) ≡ os = operations-accepted h e r is ∙ o in
      let cs' : commit_order (accepted_in (extended h e r)) ≡ cs = ap commit_order events ∙ (filter_map_push committer (accepted_in h) e ∙ c) in
      let rs' : filter_map aborter (accepted_in (extended h e r)) ≡ rs = ap (filter_map aborter) events ∙ (filter_map_push aborter (accepted_in h) e ∙ a) in
      let b' : begin_record (accepted_in (extended h e r)) ≡ b = ap begin_record events ∙ g in
      λ i. record { operations = os' i; commits = cs' i; aborts = rs' i; begin_record = b' i }

  same_begins : (e : Event) → begin_record_of e ≡ None → begin_record (accepted_in h ++ e ∷ []) ≡ begin_record (accepted_in h)
  same_begins e none = fun_ext (λ u. begin_record-unchanged (accepted_in h) e u none)

  pub with_imports : (e : Event) (r : Reply) → is_refusal r ≡ false → (q : ℕ) → imports d (extended h e r) q ≡ imports d h q + import_in (due_in d h e) q
  with_imports e r is q = ap (λ (es : List Event). import_in (charges (value_distance d h) h.opening es) q) (done-accepted h e r is) ∙ import-push (value_distance d h) h.opening (accepted_in h) e q

  no_imports : (e : Event) (r : Reply) → is_refusal r ≡ false → ((q : ℕ) → import_in (due_in d h e) q ≡ 0) → imports d (extended h e r) ≡ imports d h
  no_imports e r is none = fun_ext (λ q. with_imports e r is q ∙ (ap (λ n. imports d h q + n) (none q) ∙ add-zero (imports d h q)))

  pub refused_trace : (e : Event) (why : Refusal) → trace (extended h e (Refused why)) ≡ trace h
  refused_trace e why = grind (arith, done-refused h e why, operations-refused, aborter)

  pub refused_imports : (e : Event) (why : Refusal) → imports d (extended h e (Refused why)) ≡ imports d h
  refused_imports e why = ap (λ (es : List Event). import_in (charges (value_distance d h) h.opening es)) (done-refused h e why)

  -- if no update holds a lock, all that used the item have ended
  active_user : (u : ℕ) → is_update (accepted_in h) u ≡ true → ended_in (trace h) u ≡ false → is_active (accepted_in h) u ≡ true
  active_user u update running = trace_active h u (record { begun = update_begun (accepted_in h) u update; open_ended = running })

  holds_written : (o : Operation) → In o (operations h) → o.writes ≡ true → is_active (accepted_in h) o.txn ≡ true → holds_write (accepted_in h) o.txn o.item ≡ true
  holds_written o i w act =
      grind (arith, and_from, wrote_trace h o.txn o.item, any-from_In, wrote_by o.item o.txn, eq-eqb o.item o.item refl, eq-eqb o.txn o.txn refl)

  holds_taken : (o : Operation) → In o (operations h) → o.writes ≡ false → is_active (accepted_in h) o.txn ≡ true → holds_read (accepted_in h) o.txn o.item ≡ true
  holds_taken o i w act =
      grind (arith, and_from, read_trace h o.txn o.item, any-from_In, read_item_by o.item o.txn, eq-eqb o.item o.item refl, eq-eqb o.txn o.txn refl)

  no_writer : (t x : ℕ) → ((u : ℕ) → (u ≡ t → ⊥) → is_update (accepted_in h) u ≡ true → holds_write (accepted_in h) u x ≡ false) → NoOtherWriter (trace h) t x
  no_writer t x free = grind (arith, cases_Bool, ended_in, trace h, true≢false, holds_written, active_user)

  no_user : (t x : ℕ) → ((u : ℕ) → (u ≡ t → ⊥) → is_update (accepted_in h) u ≡ true → (holds_read (accepted_in h) u x || holds_write (accepted_in h) u x) ≡ false) → NoOtherUser (trace h) t x
  no_user t x free = record {
    none = λ o i here other update.
        elim (cases_Bool (ended_in (trace h) o.txn)) [
          | inl over ↦ over
          | inr running ↦
              let act = active_user o.txn update running in
              let p = or_parts (holds_read (accepted_in h) o.txn o.item) (holds_write (accepted_in h) o.txn o.item) (subst (λ y. (holds_read (accepted_in h) o.txn y || holds_write (accepted_in h) o.txn y) ≡ false) (sym here) (free o.txn other update)) in
              elim (cases_Bool o.writes) [
                | inl w ↦ absurd (true≢false (sym (holds_written o i w act) ∙ p.1))
                | inr r ↦ absurd (true≢false (sym (holds_taken o i r act) ∙ p.0))
              ]
        ];
  }

  -- a number that is not found fails the test
  unfound : (p : ℕ → Bool) → find (λ u. is_update (accepted_in h) u && p u) (txn_numbers (accepted_in h)) ≡ None → (u : ℕ) → is_update (accepted_in h) u ≡ true → p u ≡ false
  unfound p none u update =
      let n = begun_in_range (accepted_in h) u (update_begun (accepted_in h) u update) in
      and_right_false (is_update (accepted_in h) u) (p u) update (find_none (λ u. is_update (accepted_in h) u && p u) 1 (length (begin_records (accepted_in h))) none u n.0 n.1)

  unfound_other : (p : ℕ → Bool) (t : ℕ) → find (λ u. not (u == t) && (is_update (accepted_in h) u && p u)) (txn_numbers (accepted_in h)) ≡ None → (u : ℕ) → (u ≡ t → ⊥) → is_update (accepted_in h) u ≡ true → p u ≡ false
  unfound_other p t none u other update =
      let n = begun_in_range (accepted_in h) u (update_begun (accepted_in h) u update) in
      and_right_false (is_update (accepted_in h) u) (p u) update
      (and_right_false (not (u == t)) (is_update (accepted_in h) u && p u) (ap not (ne_eqb u t other)) (find_none (λ u. not (u == t) && (is_update (accepted_in h) u && p u)) 1 (length (begin_records (accepted_in h))) none u n.0 n.1))

  -- the trace after an operation
  pub operation_trace : (e : Event) (r : Reply) (o : Operation) → is_refusal r ≡ false → operation_by e r ≡ Some o → committer e ≡ None → aborter e ≡ None → begin_record_of e ≡ None → trace (extended h e r) ≡ with_operation (trace h) o
  operation_trace e r o is op c a b =
      grown e r is (operations h ++ o ∷ []) (commit_order (accepted_in h)) (filter_map aborter (accepted_in h)) (begin_record (accepted_in h))
      (ap (λ p. operations h ++ cons_option p []) op) (ap (λ p. commit_order (accepted_in h) ++ cons_option p []) c ∙ append-nil (commit_order (accepted_in h)))
      (ap (λ p. filter_map aborter (accepted_in h) ++ cons_option p []) a ∙ append-nil (filter_map aborter (accepted_in h))) (same_begins e b)

  pub begin_trace : (e : Event) (r : Reply) → is_refusal r ≡ false → operation_by e r ≡ None → committer e ≡ None → aborter e ≡ None → trace (extended h e r) ≡ with_begins (trace h) (begin_record (accepted_in h ++ e ∷ []))
  begin_trace e r is op c a =
      grown e r is (operations h) (commit_order (accepted_in h)) (filter_map aborter (accepted_in h)) (begin_record (accepted_in h ++ e ∷ []))
      (ap (λ p. operations h ++ cons_option p []) op ∙ append-nil (operations h)) (ap (λ p. commit_order (accepted_in h) ++ cons_option p []) c ∙ append-nil (commit_order (accepted_in h)))
      (ap (λ p. filter_map aborter (accepted_in h) ++ cons_option p []) a ∙ append-nil (filter_map aborter (accepted_in h))) refl

  pub commit_trace : (t : TxnId) → trace (extended h (Commit t) Committed) ≡ with_commit (trace h) t.0
  commit_trace t =
      grown (Commit t) Committed refl (operations h) (commit_order (accepted_in h) ++ t.0 ∷ []) (filter_map aborter (accepted_in h)) (begin_record (accepted_in h)) (append-nil (operations h)) refl (append-nil (filter_map aborter (accepted_in h))) (same_begins (Commit t) refl)

  pub abort_trace : (t : TxnId) → trace (extended h (Abort t) Aborted) ≡ with_abort (trace h) t.0
  abort_trace t =
      grown (Abort t) Aborted refl (operations h) (commit_order (accepted_in h)) (filter_map aborter (accepted_in h) ++ t.0 ∷ []) (begin_record (accepted_in h)) (append-nil (operations h)) (append-nil (commit_order (accepted_in h))) refl (same_begins (Abort t) refl)

  pub begins_kept : (e : Event) → Keeps (begin_record (accepted_in h)) (begin_record (accepted_in h ++ e ∷ []))
  begins_kept e u begun = at (begin_record (accepted_in h) u) refl begun
    where
      at : (b : Option BeginRecord) → begin_record (accepted_in h) u ≡ b → is_some b ≡ true → begin_record (accepted_in h ++ e ∷ []) u ≡ begin_record (accepted_in h) u
      at None was is_it = absurd (true≢false (sym is_it))
      at (Some b) was is_it = begin_record-push (accepted_in h) e u b was ∙ sym was

-- each entry of the machine preserves a property that the steps preserve
module _ (d : DistanceFunction) (h : Schedule) (P : Trace → (ℕ → ℕ) → Type 0) (kept : IsKept (setting d h) P) where
  linked : (e : Event) (r : Reply) (t : Trace) (m : ℕ → ℕ) → trace (extended h e r) ≡ t → imports d (extended h e r) ≡ m → P t m → P (trace (extended h e r)) (imports d (extended h e r))
  linked e r t m same sums reached =
      subst (λ (w : Trace). P w (imports d (extended h e r))) (sym same) (subst (λ (w : ℕ → ℕ). P t w) (sym sums) reached)

  refused_step : (e : Event) (why : Refusal) → P (trace h) (imports d h) → P (trace (extended h e (Refused why))) (imports d (extended h e (Refused why)))
  refused_step e why reached = linked e (Refused why) (trace h) (imports d h) (refused_trace d h e why) (refused_imports d h e why) reached

  begin_step : (e : Event) (r : Reply) → is_refusal r ≡ false → operation_by e r ≡ None → committer e ≡ None → aborter e ≡ None → ((q : ℕ) → import_in (due_in d h e) q ≡ 0) → P (trace h) (imports d h) → P (trace (extended h e r)) (imports d (extended h e r))
  begin_step e r is op c a free reached =
      linked e r (with_begins (trace h) (begin_record (accepted_in h ++ e ∷ []))) (imports d h) (begin_trace d h e r is op c a) (no_imports d h e r is free) (kept.begins (trace h) (imports d h) reached (begin_record (accepted_in h ++ e ∷ [])) (begins_kept d h e))

  commit_step : (t : TxnId) → P (trace h) (imports d h) → is_active (accepted_in h) t.0 ≡ true → P (trace (extended h (Commit t) Committed)) (imports d (extended h (Commit t) Committed))
  commit_step t reached act =
      linked (Commit t) Committed (with_commit (trace h) t.0) (imports d h) (commit_trace d h t) (no_imports d h (Commit t) Committed refl (λ q. refl)) (kept.commits (trace h) (imports d h) reached t.0 (active_trace h t.0 act))

  abort_step : (t : TxnId) → P (trace h) (imports d h) → is_active (accepted_in h) t.0 ≡ true → P (trace (extended h (Abort t) Aborted)) (imports d (extended h (Abort t) Aborted))
  abort_step t reached act =
      linked (Abort t) Aborted (with_abort (trace h) t.0) (imports d h) (abort_trace d h t) (no_imports d h (Abort t) Aborted refl (λ q. refl)) (kept.aborts (trace h) (imports d h) reached t.0 (active_trace h t.0 act))

  -- a read by an update, which is charged nothing
  update_reads : (t : TxnId) (x : ItemId) → P (trace h) (imports d h) → is_active (accepted_in h) t.0 ≡ true → is_query (accepted_in h) t.0 ≡ false → blocked_by (other_writer (accepted_in h) t.0 x.0) ≡ None
      → P (trace (extended h (Read t x) (Value (current_value h.opening (accepted_in h) x.0)))) (imports d (extended h (Read t x) (Value (current_value h.opening (accepted_in h) x.0))))
  update_reads t x reached act not_query free =
      let o : Operation = read_of t.0 x.0 (current_value h.opening (accepted_in h) x.0) in
      linked (Read t x) (Value (current_value h.opening (accepted_in h) x.0)) (with_operation (trace h) (read_of t.0 x.0 (current_in (value_at h.opening) (trace h) x.0))) (imports d h)
      (operation_trace d h (Read t x) (Value (current_value h.opening (accepted_in h) x.0)) o refl refl refl refl refl ∙ ap (λ v. with_operation (trace h) (read_of t.0 x.0 v)) (current_trace h x.0))
      (no_imports d h (Read t x) (Value (current_value h.opening (accepted_in h) x.0)) refl
      (λ q. ap (λ b. import_in (if b then charge_of_read (value_distance d h) h.opening (accepted_in h) t.0 x.0 (writer (accepted_in h) x.0) else []) q) not_query))
      (kept.update_reads (trace h) (imports d h) reached t.0 x.0 (active_trace h t.0 act) (update_from (accepted_in h) t.0 (active_parts (accepted_in h) t.0 act).0 not_query)
      (no_writer d h t.0 x.0 (unfound_other d h (λ u. holds_write (accepted_in h) u x.0) t.0 (option_map_none (λ u. BlockedByLock (record { 0 = u })) (other_writer (accepted_in h) t.0 x.0) free))))

  query_reads : (t : TxnId) (x : ItemId) → P (trace h) (imports d h) → is_active (accepted_in h) t.0 ≡ true → is_query (accepted_in h) t.0 ≡ true
      → P (trace (extended h (Read t x) (Value (current_value h.opening (accepted_in h) x.0)))) (imports d (extended h (Read t x) (Value (current_value h.opening (accepted_in h) x.0))))
  query_reads t x reached act query =
      let o : Operation = read_of t.0 x.0 (current_value h.opening (accepted_in h) x.0) in
      linked (Read t x) (Value (current_value h.opening (accepted_in h) x.0)) (with_operation (trace h) (read_of t.0 x.0 (current_in (value_at h.opening) (trace h) x.0))) (λ q. imports d h q + import_in (due_in d h (Read t x)) q)
      (operation_trace d h (Read t x) (Value (current_value h.opening (accepted_in h) x.0)) o refl refl refl refl refl ∙ ap (λ v. with_operation (trace h) (read_of t.0 x.0 v)) (current_trace h x.0))
      (fun_ext (with_imports d h (Read t x) (Value (current_value h.opening (accepted_in h) x.0)) refl))
      (kept.query_reads (trace h) (imports d h) reached t.0 x.0 (import_in (due_in d h (Read t x))) (active_trace h t.0 act) (query_not_update (accepted_in h) t.0 query) (paid (writer (accepted_in h) x.0) refl))
    where
      paid : (w : Option ℕ) → writer (accepted_in h) x.0 ≡ w
          → NoOtherWriter (trace h) t.0 x.0 ⊎ (value_distance d h x.0 (current_in (value_at h.opening) (trace h) x.0) (committed_in (value_at h.opening) (trace h) x.0) ≤ import_in (due_in d h (Read t x)) t.0)
      paid None none = inl (no_writer d h t.0 x.0 (λ u other update. unfound d h (λ u. holds_write (accepted_in h) u x.0) none u update))
      paid (Some u) some =
          let c : Charge = record { query = t.0; update = u; amount = value_distance d h x.0 (current_value h.opening (accepted_in h) x.0) (committed_value h.opening (accepted_in h) x.0) } in
          let one : due_in d h (Read t x) ≡ c ∷ [] = ap (λ b. if b then charge_of_read (value_distance d h) h.opening (accepted_in h) t.0 x.0 (writer (accepted_in h) x.0) else []) query ∙ ap (charge_of_read (value_distance d h) h.opening (accepted_in h) t.0 x.0) some in
          let amount : value_distance d h x.0 (current_in (value_at h.opening) (trace h) x.0) (committed_in (value_at h.opening) (trace h) x.0) ≡ c.amount =
          ap (λ v. value_distance d h x.0 v (committed_in (value_at h.opening) (trace h) x.0)) (sym (current_trace h x.0)) ∙ ap (value_distance d h x.0 (current_value h.opening (accepted_in h) x.0)) (sym (committed_trace h x.0)) in
          inr (rw (amount, one) (first_amount c []))

  -- a write is charged to each active query that has read the item
  write_step : (t : TxnId) (x : ItemId) (v : ℤ) → P (trace h) (imports d h) → is_active (accepted_in h) t.0 ≡ true → is_query (accepted_in h) t.0 ≡ false → blocked_by (other_holder (accepted_in h) t.0 x.0) ≡ None
      → P (trace (extended h (Write t x v) Wrote)) (imports d (extended h (Write t x v) Wrote))
  write_step t x v reached act not_query free =
      linked (Write t x v) Wrote (with_operation (trace h) (write_of t.0 x.0 v)) (λ q. imports d h q + import_in (due_in d h (Write t x v)) q)
      (operation_trace d h (Write t x v) Wrote (write_of t.0 x.0 v) refl refl refl refl refl)
      (fun_ext (with_imports d h (Write t x v) Wrote refl))
      (kept.writes (trace h) (imports d h) reached t.0 x.0 v (import_in (due_in d h (Write t x v))) (active_trace h t.0 act) update
      (no_user d h t.0 x.0 (unfound_other d h (λ u. holds_read (accepted_in h) u x.0 || holds_write (accepted_in h) u x.0) t.0 (option_map_none (λ u. BlockedByLock (record { 0 = u })) (other_holder (accepted_in h) t.0 x.0) free)))
      paid)
    where
      update : is_update (accepted_in h) t.0 ≡ true
      update = update_from (accepted_in h) t.0 (active_parts (accepted_in h) t.0 act).0 not_query

      charge : ℕ → Option Charge
      charge = charge_of_write (value_distance d h) h.opening (accepted_in h) t.0 x.0 v

      listed : due_in d h (Write t x v) ≡ filter_map charge (txn_numbers (accepted_in h))
      listed = ap (λ b. if b then filter_map charge (txn_numbers (accepted_in h)) else []) update

      paid : (q : ℕ) → Active (trace h) q → query_in (trace h) q ≡ true → read_count_in (trace h) x.0 q * value_distance d h x.0 v (current_in (value_at h.opening) (trace h) x.0) ≤ import_in (due_in d h (Write t x v)) q
      paid q a query =
          rw (sym (reads_trace h q x.0), sym (current_trace h x.0), listed)
          (elim (cases_Bool (list_any (reads q x.0) (accepted_in h))) [
            | inl did ↦
                let n = begun_in_range (accepted_in h) q a.begun in
                let held : holds_read (accepted_in h) q x.0 ≡ true = and_from (is_active (accepted_in h) q) (list_any (reads q x.0) (accepted_in h)) (trace_active h q a) did in
                amount_listed charge (record { query = q; update = t.0; amount = read_count (accepted_in h) q x.0 * value_distance d h x.0 v (current_value h.opening (accepted_in h) x.0) }) q 1 (length (begin_records (accepted_in h)))
                (rw (query, held) refl) refl n.0 n.1
            | inr not_did ↦
                let none : read_count (accepted_in h) q x.0 ≡ 0 = count_none (reads q x.0) (accepted_in h) not_did in
                rw none (omega arith)
          ])

  accepted_kept : (e : Event) → P (trace h) (imports d h) → NoneApplies (reasons d h e) → P (trace (extended h e (acceptance h e))) (imports d (extended h e (acceptance h e)))
  accepted_kept (Read t x) reached none =
      grind (arith, read_allowed d h t x none, not_ended, cases_Bool (is_query (accepted_in h) t.0), query_reads, update_reads)
  accepted_kept (Write t x v) reached none = grind (arith, write_allowed d h t x v none, write_step, not_ended, when_none)
  accepted_kept (Commit t) reached none = commit_step t reached (not_ended h t.0 (end_allowed h t none).active)
  accepted_kept (Abort t) reached none = abort_step t reached (not_ended h t.0 (end_allowed h t none).active)
  accepted_kept e reached none = begin_step e (acceptance h e) refl refl refl refl (λ q. refl) reached

  pub kept_step : (e : Event) (r : Reply) → r ≡ reply_to d h e → P (trace h) (imports d h) → P (trace (extended h e r)) (imports d (extended h e r))
  kept_step e r is reached = at (refusal d h e) refl
    where
      at : (why : Option Refusal) → refusal d h e ≡ why → P (trace (extended h e r)) (imports d (extended h e r))
      at None none =
          let answer : r ≡ acceptance h e = is ∙ ap (λ w. answered w (acceptance h e)) none in
          subst (λ w. P (trace (extended h e w)) (imports d (extended h e w))) (sym answer) (accepted_kept e reached (none_applies (reasons d h e) none))
      at (Some why) some =
          let answer : r ≡ Refused why = is ∙ ap (λ w. answered w (acceptance h e)) some in
          subst (λ w. P (trace (extended h e w)) (imports d (extended h e w))) (sym answer) (refused_step e why reached)

pub reached_step : (d : DistanceFunction) (h : Schedule) (e : Event) (r : Reply) → r ≡ reply_to d h e → IsReached d h → IsReached d (extended h e r)
reached_step d h = kept_step d h (Reached (setting d h)) (reached_kept (setting d h))

pub legal_reached : (d : DistanceFunction) (h : Schedule) → IsLegal d h → IsReached d h
legal_reached d h legal = legal_induction d (IsReached d) (λ g e r is reached. reached_step d g e r is reached) h nothing legal
