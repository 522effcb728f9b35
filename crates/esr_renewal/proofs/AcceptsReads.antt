-- The machine accepts each read of a query that is carried over: no limit refuses it.
use Rattle.std.proofs.Common.{◌≡◌, ℕ, ℤ, ◌+◌, ◌-◌, ◌<◌, Bool, true, false, not, ◌&&◌, List, [], ◌∷◌, ◌++◌, length, refl, sym, ◌∙◌, ap, subst, arith, Option, None, Some, unwrap_or, option_map, if◌then◌else◌, flat_map, sum_by, nat_lt, nat_le, append_assoc}
use Rattle.std.specs.List.{filter_map, list_any}
use Rattle.std.proofs.lemmas.Bool.{eq-eqb, and_parts, le-ltb, lt-leb, leb-false, not-false}
use Rattle.std.proofs.lemmas.List.FromFn.{length-map-range_with_len}
use Rattle.std.proofs.lemmas.List.Sums.{sum_by-cons, sum_by-append}
use Rattle.esr_history.specs.Events.{txn_numbers, limit_of, is_refusal, accepted, is_begun, is_query, is_update, is_active, holds_write, writes, total_read_count, committed_value, current_value}
use Rattle.esr_history.specs.Machine.{DistanceFunction, Schedule, Charge, accepted_in, value_distance, due, due_in, charges, charges_in, import_in, export_in, total, reply_to, reasons, many_reads, read_blocked, blocked_by, other_writer, import_full, export_full, when, writer, charge_of_read, IsLegal}
use Rattle.esr_history.specs.Legal.{continued}
use Rattle.esr_history.specs.ReportBounds.{is_active_query}
use Rattle.esr_history.proofs.Allowed.{NoneApplies, ReadAllowed, read_allowed}
use Rattle.esr_history.proofs.Lists.{found_satisfies}
use Rattle.esr_history.proofs.LegalWellFormed.{when_none}
use Rattle.esr_history.proofs.ReportBoundsLaws.{begin_stays}
use Rattle.esr_history.proofs.Traces.{IsMetric}
use Rattle.esr_core.specs.Renewed.{committed_values, renewed}
use Rattle.esr_core.specs.Carried.{active_numbers, new_number, settled, charged_in, open_charges, carried_read}
use Rattle.esr_core.proofs.Held.{update_or_query}
use Rattle.esr_renewal.specs.Types.{TxnId, ItemId, Event, BeginUpdate, BeginQuery, Read, Write, Commit, Abort, Entry, Value, NoSuchTransaction, AlreadyEnded, NoSuchItem, TooManyReads}
use Rattle.esr_renewal.proofs.OpenCharges.{uncommitted_distance}
use Rattle.esr_renewal.proofs.Replayed.{operation_again, read_again, begins_again, events_again}
use Rattle.esr_renewal.proofs.Again.{query_active, begun_then, query_then, limit_then, active_then, query_total}
use Rattle.esr_renewal.proofs.CarriedValues.{current_kept}
use Rattle.esr_renewal.proofs.CarriedCharges.{charge_by, charges_of, read_charged, charged_then}
use Rattle.esr_renewal.proofs.OpenSums.{open_of, open_sum, imports_to, exports_of, IsWithin, within, carried_import, carried_export}
use Rattle.esr_renewal.proofs.CarriedEntries.{accepted_parts, accepted_reply, allowed, events_split, begin_entry, operation_entry, read_entry, begins_accepted, operations_accepted, reads_accepted}
use Rattle.esr_renewal.proofs.Accepts.{same_entry}

module _ (d : DistanceFunction) (metric : (w : List ℕ) → IsMetric (d w)) (h : Schedule) (legal : IsLegal d h) where
  abbrev start : Schedule
  start = continued (continued (renewed h h.weights) (filter_map (begin_entry d h) (active_numbers h))) (filter_map (operation_entry d h) h.entries)

  abbrev distance : ℕ → ℤ → ℤ → ℕ
  distance = value_distance d h

  module _ (before after : List Entry) (e : Entry) (split : h.entries ≡ before ++ e ∷ after) (ok : is_refusal e.reply ≡ false) (q : TxnId) (x : ItemId) (is : e.event ≡ Read q x) (own : is_active_query h q.0 ≡ true) where
    abbrev k : Schedule
    k = continued start (filter_map (read_entry d h) before)

    abbrev rs : List Event
    rs = accepted before

    abbrev evs : List Event
    evs = events_again d h (active_numbers h) (accepted_in h) rs

    abbrev u : ℕ
    u = (new_number h q.0).0

    active : is_active (accepted_in h) q.0 ≡ true
    active = query_active d h q.0 own

    query : is_query (accepted_in h) q.0 ≡ true
    query = (and_parts (is_query (accepted_in h) q.0) (is_active (accepted_in h) q.0) own).0

    same : accepted_in k ≡ evs
    same =
        accepted_parts (filter_map (begin_entry d h) (active_numbers h) ++ filter_map (operation_entry d h) h.entries) (filter_map (read_entry d h) before)
        ∙ (rw (accepted_parts (filter_map (begin_entry d h) (active_numbers h)) (filter_map (operation_entry d h) h.entries), begins_accepted d h (active_numbers h), operations_accepted d h h.entries, reads_accepted d h before)
        (append_assoc (begins_again d h (active_numbers h)) (filter_map (operation_again d h) (accepted_in h)) (filter_map (read_again d h) rs)))

    there : ReadAllowed d (record h { entries = before }) q x
    there = read_allowed d (record h { entries = before }) q x (subst (λ v. NoneApplies (reasons d (record h { entries = before }) v)) is (allowed d h legal before after e split ok))

    -- it was a query before
    was_query : is_query rs q.0 ≡ true
    was_query =
        let begun : is_begun rs q.0 ≡ true = not-false (is_begun rs q.0) (when_none (not (is_begun rs q.0)) NoSuchTransaction there.begun) in
        let whole : IsLegal d (continued (record h { entries = before }) (e ∷ after)) = subst (λ (es : List Entry). IsLegal d (record h { entries = es })) split legal in
        ap (λ o. unwrap_or (option_map (λ b. b.query) o) false) (sym (begin_stays d (record h { entries = before }) (e ∷ after) q.0 whole begun))
        ∙ (ap (λ es. is_query (accepted es) q.0) (sym split) ∙ query)

    few : many_reads k u ≡ None
    few =
        let n : ℕ = total_read_count rs q.0 in
        let below : n < 1000 = leb-false 1000 n (sym (ap (λ b. b && nat_le 1000 n) was_query) ∙ when_none (is_query rs q.0 && nat_le 1000 n) TooManyReads there.count_within_max) in
        let count : total_read_count (accepted_in k) u ≡ n = ap (λ es. total_read_count es u) same ∙ query_total d h (accepted_in h) rs q.0 own in
        ap (λ m. when (is_query (accepted_in k) u && nat_le 1000 m) TooManyReads) count
        ∙ (ap (λ b. when (is_query (accepted_in k) u && b) TooManyReads) (lt-leb 1000 n below) ∙ neither (is_query (accepted_in k) u))
      where
        neither : (b : Bool) → when (b && false) TooManyReads ≡ None
        neither true = refl
        neither false = refl

    free : read_blocked k u x.0 ≡ None
    free = ap (λ b. if b then None else blocked_by (other_writer (accepted_in k) u x.0)) (ap (λ es. is_query es u) same ∙ (query_then d h (accepted_in h) rs q.0 active ∙ query))

    -- sums over the reads before, and over all
    abbrev sum : (Charge → ℕ) → List Event → ℕ
    sum f es = sum_by (λ e. sum_by f (open_of d h e)) es

    whole_sum : (f : Charge → ℕ) → sum_by f (open_charges d h) ≡ sum f rs + (sum_by f (open_of d h (Read q x)) + sum f (accepted after))
    whole_sum f =
        let a = open_sum d h f in
        let b : sum f (accepted_in h) ≡ sum f (rs ++ Read q x ∷ accepted after) = ap (sum f) (events_split d h legal before after e split ok ∙ ap (λ v. rs ++ v ∷ accepted after) is) in
        let c = sum_by-append (λ e. sum_by f (open_of d h e)) rs (Read q x ∷ accepted after) in
        let s = sum_by-cons (λ e. sum_by f (open_of d h e)) (Read q x) (accepted after) in
        omega (arith, a, b, c, s)

    open_here : (w : Option ℕ) → writer (accepted_in h) x.0 ≡ w → open_of d h (Read q x) ≡ charge_of_read distance h.opening (accepted_in h) q.0 x.0 w
    open_here w w_is =
        ap (λ b. if b then charge_of_read distance h.opening (accepted_in h) q.0 x.0 (writer (accepted_in h) x.0) else []) own
        ∙ ap (charge_of_read distance h.opening (accepted_in h) q.0 x.0) w_is

    single : (f : Charge → ℕ) (c : Charge) → sum_by f (c ∷ []) ≡ f c
    single f c = let a = sum_by-cons f c [] in omega (arith, a)

    charges_same : charges_in d k ≡ flat_map (charges_of d h legal) rs
    charges_same = ap (charges distance (committed_values h)) same ∙ charged_then d h legal rs

    due_same : due_in d k (Read (new_number h q.0) x) ≡ charge_by d h legal q.0 x.0 (writer (accepted_in h) x.0)
    due_same = ap (λ es. due distance (committed_values h) es (Read (new_number h q.0) x)) same ∙ read_charged d h legal rs q x own

    import_fits : (w : ℕ) → writer (accepted_in h) x.0 ≡ Some w → nat_lt (limit_of (accepted_in k) u) (import_in (charges_in d k) u + uncommitted_distance distance h.opening (accepted_in h) x.0) ≡ false
    import_fits w w_is =
        let a : import_in (charges_in d k) u ≡ sum (imports_to d h q.0) rs = ap (λ cs. import_in cs u) charges_same ∙ carried_import d h legal q.0 own rs in
        let b : limit_of (accepted_in k) u ≡ limit_of (accepted_in h) q.0 - settled d h q.0 = ap (λ es. limit_of es u) same ∙ limit_then d h (accepted_in h) rs q.0 active in
        let c = whole_sum (imports_to d h q.0) in
        let l : sum_by (imports_to d h q.0) (open_of d h (Read q x)) ≡ uncommitted_distance distance h.opening (accepted_in h) x.0 =
        ap (sum_by (imports_to d h q.0)) (open_here (Some w) w_is) ∙ (single (imports_to d h q.0) (record { query = q.0; update = w; amount = uncommitted_distance distance h.opening (accepted_in h) x.0 }) ∙ ap (λ b. if b then uncommitted_distance distance h.opening (accepted_in h) x.0 else 0) (eq-eqb q.0 q.0 refl)) in
        let t : IsWithin d h metric legal q.0 = within d h metric legal q.0 active in
        let o : charged_in h (open_charges d h) q.0 ≡ import_in (open_charges d h) q.0 = ap (λ b. if b then import_in (open_charges d h) q.0 else export_in (open_charges d h) q.0) query in
        let first = t.open_charged in
        let second = t.charged_allowed in
        le-ltb (limit_of (accepted_in k) u) (import_in (charges_in d k) u + uncommitted_distance distance h.opening (accepted_in h) x.0) (omega (arith, a, b, c, l, o, first, second))

    export_fits : (w : ℕ) → writer (accepted_in h) x.0 ≡ Some w → (n : ℕ) → n ≡ uncommitted_distance distance h.opening (accepted_in h) x.0
        → nat_lt (limit_of (accepted_in k) (new_number h w).0) (export_in (charges_in d k) (new_number h w).0 + n) ≡ false
    export_fits w w_is n n_is =
        let p = and_parts (is_update (accepted_in h) w) (holds_write (accepted_in h) w x.0) (found_satisfies (λ u. is_update (accepted_in h) u && holds_write (accepted_in h) u x.0) (txn_numbers (accepted_in h)) w w_is) in
        let act : is_active (accepted_in h) w ≡ true = (and_parts (is_active (accepted_in h) w) (list_any (writes w x.0) (accepted_in h)) p.1).0 in
        let a : export_in (charges_in d k) (new_number h w).0 ≡ sum (exports_of d h w) rs = ap (λ cs. export_in cs (new_number h w).0) charges_same ∙ carried_export d h legal w act rs in
        let b : limit_of (accepted_in k) (new_number h w).0 ≡ limit_of (accepted_in h) w - settled d h w = ap (λ es. limit_of es (new_number h w).0) same ∙ limit_then d h (accepted_in h) rs w act in
        let c = whole_sum (exports_of d h w) in
        let l : sum_by (exports_of d h w) (open_of d h (Read q x)) ≡ uncommitted_distance distance h.opening (accepted_in h) x.0 =
        ap (sum_by (exports_of d h w)) (open_here (Some w) w_is) ∙ (single (exports_of d h w) (record { query = q.0; update = w; amount = uncommitted_distance distance h.opening (accepted_in h) x.0 }) ∙ ap (λ b. if b then uncommitted_distance distance h.opening (accepted_in h) x.0 else 0) (eq-eqb w w refl)) in
        let t : IsWithin d h metric legal w = within d h metric legal w act in
        let o : charged_in h (open_charges d h) w ≡ export_in (open_charges d h) w = ap (λ b. if b then import_in (open_charges d h) w else export_in (open_charges d h) w) (update_or_query (accepted_in h) w p.0) in
        let first = t.open_charged in
        let second = t.charged_allowed in
        le-ltb (limit_of (accepted_in k) (new_number h w).0) (export_in (charges_in d k) (new_number h w).0 + n) (omega (arith, a, b, c, l, o, first, second, n_is))

    imports_allowed : import_full d k (due_in d k (Read (new_number h q.0) x)) ≡ None
    imports_allowed = ap (import_full d k) due_same ∙ at (writer (accepted_in h) x.0) refl
      where
        at : (w : Option ℕ) → writer (accepted_in h) x.0 ≡ w → import_full d k (charge_by d h legal q.0 x.0 w) ≡ None
        at None w_is = refl
        at (Some w) w_is = rw (import_fits w w_is) refl

    exports_allowed : export_full d k (due_in d k (Read (new_number h q.0) x)) ≡ None
    exports_allowed = ap (export_full d k) due_same ∙ at (writer (accepted_in h) x.0) refl
      where
        at : (w : Option ℕ) → writer (accepted_in h) x.0 ≡ w → export_full d k (charge_by d h legal q.0 x.0 w) ≡ None
        at None w_is = refl
        at (Some w) w_is =
            rw (export_fits w w_is (total (charge_by d h legal q.0 x.0 (Some w))) (single (λ (c : Charge). c.amount) (record { query = u; update = (new_number h w).0; amount = uncommitted_distance distance h.opening (accepted_in h) x.0 }))) refl

    reads_now : Value (current_value h.opening (accepted_in h) x.0) ≡ reply_to d k (Read (new_number h q.0) x)
    reads_now =
        ap (λ v. Value v) (sym (ap (λ es. current_value (committed_values h) es x.0) same ∙ current_kept d h legal rs x.0))
        ∙ accepted_reply d k (Read (new_number h q.0) x) (
          ap (λ es. when (not (is_begun es u)) NoSuchTransaction) same ∙ ap (λ b. when (not b) NoSuchTransaction) (begun_then d h (accepted_in h) rs q.0 active),
          (
            ap (λ es. when (not (is_active es u)) AlreadyEnded) same ∙ ap (λ b. when (not b) AlreadyEnded) (active_then d h (accepted_in h) rs q.0 active),
            (
              ap (λ n. when (nat_le n x.0) NoSuchItem) (length-map-range_with_len (committed_value h.opening (accepted_in h)) 0 (length h.opening)) ∙ there.item,
              (few, (free, (imports_allowed, (exports_allowed, tt)))),
            ),
          ),
        )

  pub read_replied : (before : List Entry) (e : Entry) (after : List Entry) (f : Entry) → h.entries ≡ before ++ e ∷ after → read_entry d h e ≡ Some f
      → f.reply ≡ reply_to d (continued start (filter_map (read_entry d h) before)) f.event
  read_replied before e after f split is = at (is_refusal e.reply) refl is
    where
      go : is_refusal e.reply ≡ false → (v : Event) → e.event ≡ v → carried_read h v ≡ Some f → f.reply ≡ reply_to d (continued start (filter_map (read_entry d h) before)) f.event
      go ok (Read q x) v_is is' = own (is_active_query h q.0) refl is'
        where
          own : (b : Bool) → is_active_query h q.0 ≡ b → (if b then Some (record { event = Read (new_number h q.0) x; reply = Value (current_value h.opening (accepted_in h) x.0) }) else None) ≡ Some f
              → f.reply ≡ reply_to d (continued start (filter_map (read_entry d h) before)) f.event
          own true r g =
              subst (λ (n : Entry). n.reply ≡ reply_to d (continued start (filter_map (read_entry d h) before)) n.event)
              (same_entry (record { event = Read (new_number h q.0) x; reply = Value (current_value h.opening (accepted_in h) x.0) }) f g) (reads_now before after e split ok q x v_is r)
          own false r g = absurd (cc)
      go ok (Write t x v) v_is is' = absurd (cc)
      go ok (BeginUpdate l) v_is is' = absurd (cc)
      go ok (BeginQuery l s) v_is is' = absurd (cc)
      go ok (Commit t) v_is is' = absurd (cc)
      go ok (Abort t) v_is is' = absurd (cc)

      at : (b : Bool) → is_refusal e.reply ≡ b → (if b then None else carried_read h e.event) ≡ Some f → f.reply ≡ reply_to d (continued start (filter_map (read_entry d h) before)) f.event
      at true r is' = absurd (cc)
      at false r is' = go r e.event refl is'
