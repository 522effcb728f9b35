-- The counts and ranges of legal histories.
use Rattle.std.proofs.Common.{◌≡◌, ℕ, zero, suc, ℤ, ◌+◌, ◌<◌, ◌≤◌, ◌^◌, true, false, not, ◌&&◌, ◌==◌, List, [], ◌∷◌, ◌++◌, length, refl, sym, ◌∙◌, ap, subst, arith, inl, inr, filter, Option, Some, None, All, cond, count_by, ◌⊎◌, unwrap_or, nat_le, is_some, unsigned_abs, option_map, length-append}
use Rattle.std.specs.List.{AllByRecursion, cons_option}
use Rattle.std.proofs.lemmas.Bool.{cases_Bool, true≢false, leb-false, leb-true, not-false, false_from_ne_true, eqb-true}
use Rattle.std.proofs.lemmas.List.Elements.{All-from_recursion, recursion_from_All}
use Rattle.std.proofs.lemmas.List.Sums.{sum_by-append, sum_by-cons}
use Rattle.esr_items.specs.Values.{value_at, IsValue, is_value}
use Rattle.esr_history.specs.Events.{BeginRecord, begin_record, begin_records, begin_record_of, is_query, is_update, is_active, is_refusal, reads_any, total_read_count, current_value, Event, BeginUpdate, BeginQuery, Read, Write, Commit, Abort, Reply, Refused, Refusal, NoSuchItem, ValueOutOfRange, TooManyTransactions, TooManyReads}
use Rattle.esr_history.specs.Machine.{DistanceFunction, Schedule, accepted_in, extended, reply_to, reasons, refusal, acceptance, answered, IsLegal, no_item}
use Rattle.esr_history.specs.Legal.{legal_induction}
use Rattle.esr_history.specs.Operations.{Operation, operation_by, operations}
use Rattle.esr_history.specs.Ranges.{IsWithinRanges}
use Rattle.esr_history.proofs.Lists.{filter_map_push}
use Rattle.esr_history.proofs.Allowed.{NoneApplies, none_applies, read_allowed, write_allowed}
use Rattle.esr_history.proofs.LegalWellFormed.{done-refused, done-accepted, not_ended, when_none}
use Rattle.esr_history.proofs.WellFormed.{is_update-push, active_parts}
use Rattle.esr_history.proofs.Membership.{In, each_in, In-of_filter, In-append_cases}
use Rattle.esr_history.proofs.Traces.{writes_item, is_among, after_writes}
use Rattle.esr_history.proofs.TraceAgreement.{query_not_update, trace, current_trace}
use Rattle.esr_history.proofs.TraceOfHistory.{operations-refused, operations-accepted}

value_at-range : (vs : List ℤ) (x : ℕ) → AllByRecursion IsValue vs → IsValue (value_at vs x)
value_at-range [] x all = omega arith
value_at-range (v ∷ vs) zero all = all.0
value_at-range (v ∷ vs) (suc x) all = value_at-range vs x all.1

after_writes-range : (v : ℤ) (ws : List Operation) → IsValue v → ((o : Operation) → In o ws → IsValue o.value) → IsValue (after_writes v ws)
after_writes-range v [] first all = first
after_writes-range v (w ∷ ws) first all = after_writes-range w.value ws (all w (inl refl)) (λ o i. all o (inr i))

-- the counts and ranges, in a form that suits induction
record InRanges (h : Schedule) : Type 0 where
  begins : length (begin_records (accepted_in h)) ≤ 65535
  reads : (t : ℕ) → is_update (accepted_in h) t ≡ false → total_read_count (accepted_in h) t ≤ 1000
  values : AllByRecursion IsValue h.opening → (o : Operation) → In o (operations h) → IsValue o.value
  items : (o : Operation) → In o (operations h) → o.item < length h.opening

module _ (d : DistanceFunction) (h : Schedule) (in_ranges : InRanges h) where
  current-range : AllByRecursion IsValue h.opening → (x : ℕ) → IsValue (current_value h.opening (accepted_in h) x)
  current-range opened x =
      grind (arith, current_trace h x, after_writes-range, filter, writes_item, is_among, trace h, value_at-range h.opening x opened, In-of_filter)

  reads-push : (e : Event) (t : ℕ) → total_read_count (accepted_in h ++ e ∷ []) t ≡ total_read_count (accepted_in h) t + cond (reads_any t e) 1 0
  reads-push e t =
      let one : count_by (reads_any t) (e ∷ []) ≡ cond (reads_any t e) 1 0 + 0 = sum_by-cons (λ f. cond (reads_any t f) 1 0) e [] in
      sum_by-append (λ f. cond (reads_any t f) 1 0) (accepted_in h) (e ∷ []) ∙ (ap (λ n. total_read_count (accepted_in h) t + n) one ∙ omega arith)

  -- a transaction that is not an update after an event was not one before
  no_update_before : (e : Event) (t : ℕ) → is_update (accepted_in h ++ e ∷ []) t ≡ false → is_update (accepted_in h) t ≡ false
  no_update_before e t fails = false_from_ne_true (is_update (accepted_in h) t) (λ is. true≢false (sym (is_update-push (accepted_in h) e t is) ∙ fails))

  -- an event that begins and reads nothing
  fewer_reads : (e : Event) → ((t : ℕ) → reads_any t e ≡ false) → (t : ℕ) → is_update (accepted_in h ++ e ∷ []) t ≡ false → total_read_count (accepted_in h ++ e ∷ []) t ≤ 1000
  fewer_reads e none t fails = grind (arith, no_update_before e t fails, reads-push e t)

  same_begins : (e : Event) → begin_record_of e ≡ None → length (begin_records (accepted_in h ++ e ∷ [])) ≤ 65535
  same_begins e none = grind (arith, filter_map_push begin_record_of (accepted_in h) e, length-append (begin_records (accepted_in h)))

  -- after an accepted event
  about : (e : Event) (r : Reply) → is_refusal r ≡ false → length (begin_records (accepted_in h ++ e ∷ [])) ≤ 65535
      → ((t : ℕ) → is_update (accepted_in h ++ e ∷ []) t ≡ false → total_read_count (accepted_in h ++ e ∷ []) t ≤ 1000)
      → ((o : Operation) → In o (cons_option (operation_by e r) []) → (AllByRecursion IsValue h.opening → IsValue o.value) × (o.item < length h.opening)) → InRanges (extended h e r)
  about e r is begins reads new =
      let events : accepted_in (extended h e r) ≡ accepted_in h ++ e ∷ [] = done-accepted h e r is in
      record {
        begins = rw events begins;
        reads = λ t fails. rw events (reads t (subst (λ (es : List Event). is_update es t ≡ false) events fails));
        values = λ opened o i. elim (one o i) [ inl j ↦ in_ranges.values opened o j | inr j ↦ (new o j).0 opened ];
        items = λ o i. elim (one o i) [ inl j ↦ in_ranges.items o j | inr j ↦ (new o j).1 ];
      }
    where
      one : (o : Operation) → In o (operations (extended h e r)) → In o (operations h) ⊎ In o (cons_option (operation_by e r) [])
      one o i = In-append_cases (operations h) (cons_option (operation_by e r) []) o (subst (In o) (operations-accepted h e r is) i)

  begin_in_ranges : (e : Event) (r : Reply) (b : BeginRecord) → is_refusal r ≡ false → begin_record_of e ≡ Some b → operation_by e r ≡ None → ((t : ℕ) → reads_any t e ≡ false) → nat_le 65535 (length (begin_records (accepted_in h))) ≡ false → InRanges (extended h e r)
  begin_in_ranges e r b is begins none no_read spare_capacity =
      about e r is more (fewer_reads e no_read) (λ o i. absurd (subst (λ p. In o (cons_option p [])) none i))
    where
      more : length (begin_records (accepted_in h ++ e ∷ [])) ≤ 65535
      more =
          let below : length (begin_records (accepted_in h)) < 65535 = leb-false 65535 (length (begin_records (accepted_in h))) spare_capacity in
          let same : length (begin_records (accepted_in h ++ e ∷ [])) ≡ length (begin_records (accepted_in h)) + 1 = ap length (filter_map_push begin_record_of (accepted_in h) e ∙ ap (λ o. begin_records (accepted_in h) ++ cons_option o []) begins) ∙ length-append (begin_records (accepted_in h)) (b ∷ []) in
          omega arith

  single : (P : Operation → Type 0) (o : Operation) → P o → (w : Operation) → In w (o ∷ []) → P w
  single P o p w i = elim i [ inl e ↦ subst P e p | inr none ↦ absurd none ]

  item_below : (x : ℕ) → no_item h x ≡ None → x < length h.opening
  item_below x none = leb-false (length h.opening) x (when_none (nat_le (length h.opening) x) NoSuchItem none)

  accepted_in_ranges : (e : Event) → NoneApplies (reasons d h e) → InRanges (extended h e (acceptance h e))
  accepted_in_ranges (BeginUpdate l) none =
      begin_in_ranges (BeginUpdate l) (acceptance h (BeginUpdate l)) (record { query = false; strict = false; limit = l }) refl refl refl (λ t. refl) (when_none (nat_le 65535 (length (begin_records (accepted_in h)))) TooManyTransactions none.1.0)
  accepted_in_ranges (BeginQuery l s) none =
      begin_in_ranges (BeginQuery l s) (acceptance h (BeginQuery l s)) (record { query = true; strict = s; limit = l }) refl refl refl (λ t. refl) (when_none (nat_le 65535 (length (begin_records (accepted_in h)))) TooManyTransactions none.1.0)
  accepted_in_ranges (Read t x) none =
      about (Read t x) (acceptance h (Read t x)) refl (same_begins (Read t x) refl) reads
      (single (λ o. (AllByRecursion IsValue h.opening → IsValue o.value) × (o.item < length h.opening)) (record { txn = t.0; item = x.0; writes = false; value = current_value h.opening (accepted_in h) x.0 }) (λ opened. current-range opened x.0, item_below x.0 (read_allowed d h t x none).item))
    where
      act : is_active (accepted_in h) t.0 ≡ true
      act = not_ended h t.0 (read_allowed d h t x none).active

      spare_capacity : is_query (accepted_in h) t.0 ≡ true → total_read_count (accepted_in h) t.0 < 1000
      spare_capacity query = leb-false 1000 (total_read_count (accepted_in h) t.0) (sym (ap (λ b. b && nat_le 1000 (total_read_count (accepted_in h) t.0)) query) ∙ when_none (is_query (accepted_in h) t.0 && nat_le 1000 (total_read_count (accepted_in h) t.0)) TooManyReads (read_allowed d h t x none).count_within_max)

      reads : (u : ℕ) → is_update (accepted_in h ++ Read t x ∷ []) u ≡ false → total_read_count (accepted_in h ++ Read t x ∷ []) u ≤ 1000
      reads u fails =
          let before : is_update (accepted_in h) u ≡ false = no_update_before (Read t x) u fails in
          rw (reads-push (Read t x) u)
          (elim (cases_Bool (t.0 == u)) [
            | inl own ↦
                let below : total_read_count (accepted_in h) u < 1000 = subst (λ w. total_read_count (accepted_in h) w < 1000) (eqb-true t.0 u own) (spare_capacity (query_from (begin_record (accepted_in h) t.0) (active_parts (accepted_in h) t.0 act).0 (subst (λ w. is_update (accepted_in h) w ≡ false) (sym (eqb-true t.0 u own)) before))) in
                rw own (omega arith)
            | inr other ↦
                let low : total_read_count (accepted_in h) u ≤ 1000 = in_ranges.reads u before in
                rw other (omega arith)
          ])
        where
          query_from : (b : Option BeginRecord) → is_some b ≡ true → unwrap_or (option_map (λ c. not c.query) b) false ≡ false → unwrap_or (option_map (λ c. c.query) b) false ≡ true
          query_from None some q = absurd (true≢false (sym some))
          query_from (Some b) some q = not-false b.query q
  accepted_in_ranges (Write t x v) none =
      about (Write t x v) (acceptance h (Write t x v)) refl (same_begins (Write t x v) refl) (fewer_reads (Write t x v) (λ u. refl))
      (single (λ o. (AllByRecursion IsValue h.opening → IsValue o.value) × (o.item < length h.opening)) (record { txn = t.0; item = x.0; writes = true; value = v })
      (λ _. leb-true (unsigned_abs v) (10 ^ 12) (not-false (is_value v) (when_none (not (is_value v)) ValueOutOfRange (write_allowed d h t x v none).uncharged.value)), item_below x.0 (write_allowed d h t x v none).uncharged.item))
  accepted_in_ranges (Commit t) none = about (Commit t) (acceptance h (Commit t)) refl (same_begins (Commit t) refl) (fewer_reads (Commit t) (λ u. refl)) (λ o i. absurd i)
  accepted_in_ranges (Abort t) none = about (Abort t) (acceptance h (Abort t)) refl (same_begins (Abort t) refl) (fewer_reads (Abort t) (λ u. refl)) (λ o i. absurd i)

  InRanges-extended : (e : Event) (r : Reply) → r ≡ reply_to d h e → InRanges (extended h e r)
  InRanges-extended e r is = at (refusal d h e) refl
    where
      at : (why : Option Refusal) → refusal d h e ≡ why → InRanges (extended h e r)
      at None none = grind (arith, accepted_in_ranges e (none_applies (reasons d h e) none), none_applies (reasons d h e) none)
      at (Some why) some =
          let answer : r ≡ Refused why = is ∙ ap (λ w. answered w (acceptance h e)) some in
          let events : accepted_in (extended h e (Refused why)) ≡ accepted_in h = done-refused h e why in
          let ops : operations (extended h e (Refused why)) ≡ operations h = operations-refused h e why in
          subst (λ w. InRanges (extended h e w)) (sym answer) (record {
            begins = rw events in_ranges.begins;
            reads = λ t fails. rw events (in_ranges.reads t (subst (λ (es : List Event). is_update es t ≡ false) events fails));
            values = λ opened o i. in_ranges.values opened o (subst (In o) ops i);
            items = λ o i. in_ranges.items o (subst (In o) ops i);
          })

legal_in_ranges : (d : DistanceFunction) (h : Schedule) → IsLegal d h → InRanges h
legal_in_ranges d h legal =
    legal_induction d InRanges (λ g e r is was. InRanges-extended d g was e r is) h
    (record { begins = omega arith; reads = λ t is. omega arith; values = λ opened o i. absurd i; items = λ o i. absurd i }) legal

pub legal_begins : (d : DistanceFunction) (h : Schedule) → IsLegal d h → length (begin_records (accepted_in h)) ≤ 65535
legal_begins d h legal = (legal_in_ranges d h legal).begins

pub legal_items : (d : DistanceFunction) (h : Schedule) → IsLegal d h → (o : Operation) → In o (operations h) → o.item < length h.opening
legal_items d h legal = (legal_in_ranges d h legal).items

-- the counts and ranges of a legal history
pub legal_within_ranges : (d : DistanceFunction) (h : Schedule) → All IsValue h.opening → IsLegal d h → IsWithinRanges h
legal_within_ranges d h opened legal =
    let r : InRanges h = legal_in_ranges d h legal in
    record {
      begins = r.begins;
      reads = λ q query. r.reads q (query_not_update (accepted_in h) q query);
      values = All-from_recursion (λ (o : Operation). IsValue o.value) (operations h) (each_in (λ (o : Operation). IsValue o.value) (operations h) (r.values (recursion_from_All IsValue h.opening opened)));
      items = All-from_recursion (λ (o : Operation). o.item < length h.opening) (operations h) (each_in (λ (o : Operation). o.item < length h.opening) (operations h) r.items);
    }
