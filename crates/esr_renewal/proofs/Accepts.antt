-- The machine accepts each entry that is carried over, with the reply that is carried.
use Rattle.std.proofs.Common.{◌≡◌, ℕ, suc, ℤ, ◌+◌, ◌-◌, ◌<◌, ◌≤◌, ◌^◌, Bool, true, false, not, cond, ◌&&◌, ◌||◌, ◌==◌, List, [], ◌∷◌, ◌++◌, length, refl, sym, ◌∙◌, ap, subst, inl, inr, ⊎_elim, arith, Option, None, Some, if◌then◌else◌, filter, nat_le, append-nil, length-append}
use Rattle.std.specs.List.{filter_map, list_any}
use Rattle.std.proofs.lemmas.Bool.{cases_eq, eq-eqb, ne_eqb, eqb-true, true≢false, false_from_ne_true, and_parts, or_cases, le-ltb, lt-leb, not-true}
use Rattle.std.proofs.lemmas.List.{length-map}
use Rattle.std.proofs.lemmas.List.FromFn.{length-map-range_with_len, length-range_with_len}
use Rattle.esr_history.specs.Events.{begin_records, txn_numbers, limit_of, is_refusal, accepted, is_begun, is_query, is_update, is_active, reads, writes, holds_read, holds_write, total_read_count, written, last_value, committed_value, current_value}
use Rattle.esr_history.specs.Machine.{DistanceFunction, Schedule, Charge, accepted_in, value_distance, due, due_in, reply_to, reasons, refusal, acceptance, answered, first_reason, not_begun, ended, no_item, many_reads, read_blocked, write_blocked, blocked_by, other_writer, other_holder, import_full, export_full, limit_too_high, too_many, when, IsLegal}
use Rattle.esr_history.specs.Legal.{continued}
use Rattle.esr_history.specs.Operations.{Operation, operations, operation_of, operation_by, answer}
use Rattle.esr_history.proofs.Allowed.{NoneApplies, ReadAllowed, WriteAllowed, read_allowed, write_allowed}
use Rattle.esr_history.proofs.Fitting.{accepts}
use Rattle.esr_history.proofs.Importing.{limit_low}
use Rattle.esr_history.proofs.Lists.{find_least}
use Rattle.esr_history.proofs.LegalWellFormed.{begun_in_range}
use Rattle.esr_history.proofs.Membership.{In-any}
use Rattle.esr_history.proofs.TraceAgreement.{wrote_trace, read_trace, read_item_by}
use Rattle.esr_history.proofs.Traces.{reads_item}
use Rattle.esr_history.proofs.Versions.{wrote_by, wrote_parts}
use Rattle.esr_history.proofs.WellFormed.{update_begun}
use Rattle.esr_history.proofs.WithinRanges.{legal_begins}
use Rattle.esr_core.specs.Renewed.{committed_values, renewed}
use Rattle.esr_core.specs.Carried.{active_numbers, new_number, settled, carried_begin, carried_operation}
use Rattle.esr_core.proofs.Begins.{begin_accepted, begin_reason}
use Rattle.esr_core.proofs.Held.{update_or_query}
use Rattle.esr_core.proofs.Running.{law_of_active_updates}
use Rattle.esr_renewal.specs.Types.{TxnId, ItemId, Event, BeginUpdate, BeginQuery, Read, Write, Commit, Abort, Entry, Refusal, Begun, Value, NoSuchTransaction, AlreadyEnded, NoSuchItem, QueryMayNotWrite, TooManyReads, LimitOutOfRange, TooManyTransactions}
use Rattle.esr_renewal.proofs.Renumbered.{number_after}
use Rattle.esr_renewal.proofs.Replayed.{runs, operation_again, begins_again, events_again, begun_again, begins_are}
use Rattle.esr_renewal.proofs.Again.{runs_active, begun_then, query_then, active_then, who_wrote, who_read}
use Rattle.esr_renewal.proofs.CarriedValues.{written_agree, opens, current_then}
use Rattle.esr_renewal.proofs.CarriedCharges.{write_is_free, update_reads_free}
use Rattle.esr_renewal.proofs.CarriedEntries.{accepted_parts, accepted_reply, front, allowed, accepted_as, exclude, begin_entry, operation_entry, begins_accepted, operations_accepted}

kept_few : (p : ℕ → Bool) (xs : List ℕ) → length (filter p xs) ≤ length xs
kept_few p [] = omega arith
kept_few p (x ∷ xs) = at (p x) (kept_few p xs)
  where
    at : (b : Bool) → length (filter p xs) ≤ length xs → length (cond b (x ∷ filter p xs) (filter p xs)) ≤ suc (length xs)
    at true rest = omega (arith, rest)
    at false rest = omega (arith, rest)

pub same_entry : (a b : Entry) → Some a ≡ Some b → a ≡ b
same_entry a b e = cc

module _ (d : DistanceFunction) (h : Schedule) (legal : IsLegal d h) where
  abbrev start : Schedule
  start = renewed h h.weights

  -- The begins.
  pub begin_replied : (ys : List ℕ) (t : ℕ) (zs : List ℕ) (e : Entry) → active_numbers h ≡ ys ++ t ∷ zs → begin_entry d h t ≡ Some e
      → e.reply ≡ reply_to d (continued start (filter_map (begin_entry d h) ys)) e.event
  begin_replied ys t zs e split is = subst (λ (f : Entry). f.reply ≡ reply_to d (continued start (filter_map (begin_entry d h) ys)) f.event) (same_entry (carried_begin d h t) e is) answers
    where
      few : length (begin_records (accepted_in (continued start (filter_map (begin_entry d h) ys)))) ≡ length ys
      few = ap (λ es. length (begin_records es)) (begins_accepted d h ys) ∙ (ap length (begins_are d h ys) ∙ length-map ys (begun_again d h))

      fits : length ys < 65535
      fits =
          let a : length (active_numbers h) ≡ length ys + suc (length zs) = ap length split ∙ length-append ys (t ∷ zs) in
          let b : length (active_numbers h) ≤ length (txn_numbers (accepted_in h)) = kept_few (is_active (accepted_in h)) (txn_numbers (accepted_in h)) in
          let c : length (txn_numbers (accepted_in h)) ≡ length (begin_records (accepted_in h)) = length-range_with_len 1 (length (begin_records (accepted_in h))) in
          let l : length (begin_records (accepted_in h)) ≤ 65535 = legal_begins d h legal in
          omega (arith, a, b, c, l)

      low : limit_of (accepted_in h) t - settled d h t ≤ 10 ^ 18
      low = let l : limit_of (accepted_in h) t ≤ 10 ^ 18 = limit_low d h legal t in omega (arith, l)

      no_reason : refusal d (continued start (filter_map (begin_entry d h) ys)) (carried_begin d h t).event ≡ None
      no_reason =
          let limit : ℕ = limit_of (accepted_in h) t - settled d h t in
          sym (begin_reason d (continued start (filter_map (begin_entry d h) ys)) _ limit _)
          ∙ first_of_two (limit_too_high limit) (too_many (continued start (filter_map (begin_entry d h) ys)))
          (ap (λ b. when b LimitOutOfRange) (le-ltb (10 ^ 18) limit low))
          (ap (λ n. when (nat_le 65535 n) TooManyTransactions) few ∙ ap (λ b. when b TooManyTransactions) (lt-leb 65535 (length ys) fits))
        where
          first_of_two : (a b : Option Refusal) → a ≡ None → b ≡ None → first_reason (a ∷ b ∷ []) ≡ None
          first_of_two a b first second = rw (first, second) refl

      answers : Begun (new_number h t) ≡ reply_to d (continued start (filter_map (begin_entry d h) ys)) (carried_begin d h t).event
      answers =
          ap (λ n. Begun (record { 0 = n })) (number_after h ys zs t split ∙ ap (λ n. n + 1) (sym few))
          ∙ (begin_accepted (continued start (filter_map (begin_entry d h) ys)) _ _ _
          ∙ ap (λ w. answered w (acceptance (continued start (filter_map (begin_entry d h) ys)) (carried_begin d h t).event)) (sym no_reason))

  -- The operations of updates, after the begins.
  module _ (before after : List Entry) (e : Entry) (split : h.entries ≡ before ++ e ∷ after) (ok : is_refusal e.reply ≡ false) where
    abbrev k : Schedule
    k = continued (continued start (filter_map (begin_entry d h) (active_numbers h))) (filter_map (operation_entry d h) before)

    abbrev evs : List Event
    evs = events_again d h (active_numbers h) (accepted before) []

    same : accepted_in k ≡ evs
    same =
        accepted_parts (filter_map (begin_entry d h) (active_numbers h)) (filter_map (operation_entry d h) before)
        ∙ rw (begins_accepted d h (active_numbers h), operations_accepted d h before) (ap (λ l. begins_again d h (active_numbers h) ++ l) (sym (append-nil (filter_map (operation_again d h) (accepted before)))))

    begun_ok : (t : TxnId) → runs d h t.0 ≡ true → not_begun k (new_number h t.0).0 ≡ None
    begun_ok t own = ap (λ es. when (not (is_begun es (new_number h t.0).0)) NoSuchTransaction) same ∙ ap (λ b. when (not b) NoSuchTransaction) (begun_then d h (accepted before) [] t.0 (runs_active d h t.0 own))

    active_ok : (t : TxnId) → runs d h t.0 ≡ true → ended k (new_number h t.0).0 ≡ None
    active_ok t own = ap (λ es. when (not (is_active es (new_number h t.0).0)) AlreadyEnded) same ∙ ap (λ b. when (not b) AlreadyEnded) (active_then d h (accepted before) [] t.0 (runs_active d h t.0 own))

    item_ok : (x : ℕ) → no_item (front d h legal before after e split ok) x ≡ None → no_item k x ≡ None
    item_ok x none = ap (λ n. when (nat_le n x) NoSuchItem) (length-map-range_with_len (committed_value h.opening (accepted_in h)) 0 (length h.opening)) ∙ none

    not_query : (t : TxnId) → runs d h t.0 ≡ true → is_query (accepted_in k) (new_number h t.0).0 ≡ false
    not_query t own =
        ap (λ es. is_query es (new_number h t.0).0) same
        ∙ (query_then d h (accepted before) [] t.0 (runs_active d h t.0 own) ∙ update_or_query (accepted_in h) t.0 (and_parts (is_update (accepted_in h) t.0) (is_active (accepted_in h) t.0) own).0)

    -- no other update has used the item in a conflicting way
    writer_excluded : (b : Operation) → operation_of e ≡ Some b → runs d h b.txn ≡ true → (s : ℕ) → runs d h s ≡ true → list_any (writes s b.item) (accepted before) ≡ true → (s ≡ b.txn → ⊥) → ⊥
    writer_excluded b is own s first did apart =
        let g : Schedule = record h { entries = before } in
        let o = In-any (wrote_by b.item s) (operations g) (sym (wrote_trace g s b.item) ∙ did) in
        let p = wrote_parts b.item s o.0 o.2 in
        exclude d h legal before after e split ok o.0 b is o.1 (ap (runs d h) p.2 ∙ first) own p.1 (ap (λ w. w || b.writes) p.0) (λ i. apart (sym p.2 ∙ i))

    reader_excluded : (b : Operation) → operation_of e ≡ Some b → b.writes ≡ true → runs d h b.txn ≡ true → (s : ℕ) → runs d h s ≡ true → list_any (reads s b.item) (accepted before) ≡ true → (s ≡ b.txn → ⊥) → ⊥
    reader_excluded b is writing own s first did apart =
        let g : Schedule = record h { entries = before } in
        let o = In-any (read_item_by b.item s) (operations g) (sym (read_trace g s b.item) ∙ did) in
        let p = read_parts b.item s o.0 o.2 in
        exclude d h legal before after e split ok o.0 b is o.1 (ap (runs d h) p.1 ∙ first) own p.0 (right o.0.writes b.writes writing) (λ i. apart (sym p.1 ∙ i))
      where
        read_parts : (x u : ℕ) (o : Operation) → read_item_by x u o ≡ true → (o.item ≡ x) × (o.txn ≡ u)
        read_parts x u o h' =
            let p = and_parts (reads_item x o) (o.txn == u) h' in
            (eqb-true o.item x (and_parts (not o.writes) (o.item == x) p.0).1, eqb-true o.txn u p.1)

        right : (a b : Bool) → b ≡ true → (a || b) ≡ true
        right true b h' = refl
        right false b h' = h'

    no_other_writer : (b : Operation) → operation_of e ≡ Some b → runs d h b.txn ≡ true → other_writer evs (new_number h b.txn).0 b.item ≡ None
    no_other_writer b is own =
        find_least (λ u. not (u == (new_number h b.txn).0) && (is_update evs u && holds_write evs u b.item)) (length (begin_records evs)) None
        (λ u. false_from_ne_true (not (u == (new_number h b.txn).0) && (is_update evs u && holds_write evs u b.item)) (λ passes.
        let p = and_parts (not (u == (new_number h b.txn).0)) (is_update evs u && holds_write evs u b.item) passes in
        let q = and_parts (is_update evs u) (holds_write evs u b.item) p.1 in
        let w = who_wrote d h (accepted before) [] u b.item (and_parts (is_active evs u) (list_any (writes u b.item) evs) q.1).1 in
        writer_excluded b is own w.number w.is_update w.did (λ i.
        true≢false (sym (eq-eqb u (new_number h b.txn).0 (w.same ∙ ap (λ t. (new_number h t).0) i)) ∙ not-true (u == (new_number h b.txn).0) p.0))))
        (λ u passes.
        let p = and_parts (not (u == (new_number h b.txn).0)) (is_update evs u && holds_write evs u b.item) passes in
        begun_in_range evs u (update_begun evs u (and_parts (is_update evs u) (holds_write evs u b.item) p.1).0))

    no_other_holder : (b : Operation) → operation_of e ≡ Some b → b.writes ≡ true → runs d h b.txn ≡ true → other_holder evs (new_number h b.txn).0 b.item ≡ None
    no_other_holder b is writing own =
        find_least (λ u. not (u == (new_number h b.txn).0) && (is_update evs u && (holds_read evs u b.item || holds_write evs u b.item))) (length (begin_records evs)) None
        (λ u. false_from_ne_true (not (u == (new_number h b.txn).0) && (is_update evs u && (holds_read evs u b.item || holds_write evs u b.item))) (λ passes.
        let p = and_parts (not (u == (new_number h b.txn).0)) (is_update evs u && (holds_read evs u b.item || holds_write evs u b.item)) passes in
        let q = and_parts (is_update evs u) (holds_read evs u b.item || holds_write evs u b.item) p.1 in
        let differs : (s : ℕ) → u ≡ (new_number h s).0 → s ≡ b.txn → ⊥ = λ s same i. true≢false (sym (eq-eqb u (new_number h b.txn).0 (same ∙ ap (λ t. (new_number h t).0) i)) ∙ not-true (u == (new_number h b.txn).0) p.0) in
        ⊎_elim
        (λ r. let w = who_read d h (accepted before) u b.item (and_parts (is_active evs u) (list_any (reads u b.item) evs) r).1 in reader_excluded b is writing own w.number w.is_update w.did (differs w.number w.same))
        (λ r. let w = who_wrote d h (accepted before) [] u b.item (and_parts (is_active evs u) (list_any (writes u b.item) evs) r).1 in writer_excluded b is own w.number w.is_update w.did (differs w.number w.same))
        (or_cases (holds_read evs u b.item) (holds_write evs u b.item) q.1)))
        (λ u passes.
        let p = and_parts (not (u == (new_number h b.txn).0)) (is_update evs u && (holds_read evs u b.item || holds_write evs u b.item)) passes in
        begun_in_range evs u (update_begun evs u (and_parts (is_update evs u) (holds_read evs u b.item || holds_write evs u b.item) p.1).0))

    import_none : (cs : List Charge) → cs ≡ [] → import_full d k cs ≡ None
    import_none cs none = ap (import_full d k) none

    export_none : (cs : List Charge) → cs ≡ [] → export_full d k cs ≡ None
    export_none cs none = ap (export_full d k) none

    update_reads : (t : TxnId) (x : ItemId) → e.event ≡ Read t x → runs d h t.0 ≡ true → e.reply ≡ reply_to d k (Read (new_number h t.0) x)
    update_reads t x is own =
        let g : Schedule = record h { entries = before } in
        let there : ReadAllowed d g t x = read_allowed d g t x (subst (λ v. NoneApplies (reasons d g v)) is (allowed d h legal before after e split ok)) in
        let free : due_in d k (Read (new_number h t.0) x) ≡ [] =
        ap (λ es. due (value_distance d h) (committed_values h) es (Read (new_number h t.0) x)) same ∙ update_reads_free d h legal (committed_values h) (accepted before) [] t x own in
        let few : many_reads k (new_number h t.0).0 ≡ None =
        ap (λ b. when (b && nat_le 1000 (total_read_count (accepted_in k) (new_number h t.0).0)) TooManyReads) (not_query t own) in
        let blocked : read_blocked k (new_number h t.0).0 x.0 ≡ None =
        ap (λ b. if b then None else blocked_by (other_writer (accepted_in k) (new_number h t.0).0 x.0)) (not_query t own)
        ∙ (ap (λ es. blocked_by (other_writer es (new_number h t.0).0 x.0)) same ∙ ap blocked_by (no_other_writer operation (operation_is is) own)) in
        reply_is is
        ∙ (ap (λ v. Value v) (law_of_active_updates d h legal before after t x (current_value h.opening (accepted before) x.0) (split_as is) own ∙ sym value)
        ∙ accepted_reply d k (Read (new_number h t.0) x)
        (begun_ok t own, (active_ok t own, (item_ok x.0 there.item, (few, (blocked, (import_none (due_in d k (Read (new_number h t.0) x)) free, (export_none (due_in d k (Read (new_number h t.0) x)) free, tt))))))))
      where
        operation : Operation
        operation = record { txn = t.0; item = x.0; writes = false; value = answer e.reply }

        operation_is : e.event ≡ Read t x → operation_of e ≡ Some (record { txn = t.0; item = x.0; writes = false; value = answer e.reply })
        operation_is is' = ap (λ v. operation_by v e.reply) is'

        reply_is : e.event ≡ Read t x → e.reply ≡ Value (current_value h.opening (accepted before) x.0)
        reply_is is' = accepted_as d h legal before after e split ok ∙ ap (acceptance (record h { entries = before })) is'

        split_as : e.event ≡ Read t x → h.entries ≡ before ++ record { event = Read t x; reply = Value (current_value h.opening (accepted before) x.0) } ∷ after
        split_as is' =
            split
            ∙ ap (λ (n : Entry). before ++ n ∷ after)
            (ap (λ v. record { event = v; reply = e.reply }) is' ∙ ap (λ r. record { event = Read t x; reply = r }) (reply_is is'))

        agree : (u : ℕ) → list_any (writes u x.0) (accepted before) ≡ true → runs d h u ≡ (u == t.0)
        agree u did =
            elim (cases_eq u t.0) [
              | inl i ↦ (ap (runs d h) i ∙ own) ∙ sym (eq-eqb u t.0 i)
              | inr ne ↦ false_from_ne_true (runs d h u) (λ r. writer_excluded (record { txn = t.0; item = x.0; writes = false; value = answer e.reply }) (ap (λ v. operation_by v e.reply) is) own u r did ne) ∙ sym (ne_eqb u t.0 ne)
            ]

        value : current_value (committed_values h) (accepted_in k) x.0 ≡ last_value (committed_value h.opening (accepted_in h) x.0) (filter_map (written (λ u. u == t.0) x.0) (accepted before))
        value =
            ap (λ es. current_value (committed_values h) es x.0) same
            ∙ (current_then d h (committed_values h) (accepted before) [] x.0
            ∙ (ap (λ v. last_value v (filter_map (written (runs d h) x.0) (accepted before))) (opens d h legal x.0)
            ∙ ap (last_value (committed_value h.opening (accepted_in h) x.0)) (written_agree x.0 (runs d h) (λ u. u == t.0) (accepted before) agree)))

    update_writes : (t : TxnId) (x : ItemId) (v : ℤ) → e.event ≡ Write t x v → runs d h t.0 ≡ true → e.reply ≡ reply_to d k (Write (new_number h t.0) x v)
    update_writes t x v is own =
        let g : Schedule = record h { entries = before } in
        let there : WriteAllowed d g t x v = write_allowed d g t x v (subst (λ w. NoneApplies (reasons d g w)) is (allowed d h legal before after e split ok)) in
        let b : Operation = record { txn = t.0; item = x.0; writes = true; value = v } in
        let free : due_in d k (Write (new_number h t.0) x v) ≡ [] =
        ap (λ es. due (value_distance d h) (committed_values h) es (Write (new_number h t.0) x v)) same ∙ write_is_free d h legal (committed_values h) (accepted before) (new_number h t.0) x v in
        let blocked : write_blocked k (new_number h t.0).0 x.0 ≡ None =
        ap (λ es. blocked_by (other_holder es (new_number h t.0).0 x.0)) same ∙ ap blocked_by (no_other_holder b (ap (λ w. operation_by w e.reply) is) refl own) in
        accepted_as d h legal before after e split ok
        ∙ (ap (acceptance g) is
        ∙ accepted_reply d k (Write (new_number h t.0) x v)
        (begun_ok t own, (active_ok t own, (item_ok x.0 there.uncharged.item, (ap (λ q. when q QueryMayNotWrite) (not_query t own), (there.uncharged.value, (blocked, (import_none (due_in d k (Write (new_number h t.0) x v)) free, (export_none (due_in d k (Write (new_number h t.0) x v)) free, tt)))))))))

  pub operation_replied : (before : List Entry) (e : Entry) (after : List Entry) (f : Entry) → h.entries ≡ before ++ e ∷ after → operation_entry d h e ≡ Some f
      → f.reply ≡ reply_to d (continued (continued start (filter_map (begin_entry d h) (active_numbers h))) (filter_map (operation_entry d h) before)) f.event
  operation_replied before e after f split is = at (is_refusal e.reply) refl is
    where
      go : is_refusal e.reply ≡ false → (v : Event) → e.event ≡ v → carried_operation h e.reply v ≡ Some f
          → f.reply ≡ reply_to d (continued (continued start (filter_map (begin_entry d h) (active_numbers h))) (filter_map (operation_entry d h) before)) f.event
      go ok (Read t x) v_is is' = own (runs d h t.0) refl is'
        where
          own : (b : Bool) → runs d h t.0 ≡ b → (if b then Some (record { event = Read (new_number h t.0) x; reply = e.reply }) else None) ≡ Some f
              → f.reply ≡ reply_to d (continued (continued start (filter_map (begin_entry d h) (active_numbers h))) (filter_map (operation_entry d h) before)) f.event
          own true r g =
              subst (λ (n : Entry). n.reply ≡ reply_to d (continued (continued start (filter_map (begin_entry d h) (active_numbers h))) (filter_map (operation_entry d h) before)) n.event)
              (same_entry (record { event = Read (new_number h t.0) x; reply = e.reply }) f g) (update_reads before after e split ok t x v_is r)
          own false r g = absurd (cc)
      go ok (Write t x v) v_is is' = own (runs d h t.0) refl is'
        where
          own : (b : Bool) → runs d h t.0 ≡ b → (if b then Some (record { event = Write (new_number h t.0) x v; reply = e.reply }) else None) ≡ Some f
              → f.reply ≡ reply_to d (continued (continued start (filter_map (begin_entry d h) (active_numbers h))) (filter_map (operation_entry d h) before)) f.event
          own true r g =
              subst (λ (n : Entry). n.reply ≡ reply_to d (continued (continued start (filter_map (begin_entry d h) (active_numbers h))) (filter_map (operation_entry d h) before)) n.event)
              (same_entry (record { event = Write (new_number h t.0) x v; reply = e.reply }) f g) (update_writes before after e split ok t x v v_is r)
          own false r g = absurd (cc)
      go ok (BeginUpdate l) v_is is' = absurd (cc)
      go ok (BeginQuery l s) v_is is' = absurd (cc)
      go ok (Commit t) v_is is' = absurd (cc)
      go ok (Abort t) v_is is' = absurd (cc)

      at : (b : Bool) → is_refusal e.reply ≡ b → (if b then None else carried_operation h e.reply e.event) ≡ Some f
          → f.reply ≡ reply_to d (continued (continued start (filter_map (begin_entry d h) (active_numbers h))) (filter_map (operation_entry d h) before)) f.event
      at true r is' = absurd (cc)
      at false r is' = go r e.event refl is'
