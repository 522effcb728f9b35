-- The effect of one more entry on the count of active transactions.
use Rattle.std.proofs.Common.{◌≡◌, ◌≤◌, ◌<◌, ℕ, zero, suc, ◌+◌, ◌-◌, List, [], ◌∷◌, ◌++◌, length, ℤ, Bool, true, false, cond, not, ◌&&◌, ◌||◌, ◌==◌, refl, sym, ◌∙◌, ap, subst, arith, Option, None, Some, map, get_or, set, count_by, nat_le, nat_lt}
use Rattle.std.proofs.Math.Path.{fun_ext}
use Rattle.std.proofs.lemmas.Bool.{false≢true, or_parts}
use Rattle.std.proofs.lemmas.Bool.Decides.{nat_tests}
use Rattle.std.proofs.lemmas.List.FromFn.{length-map-range_with_len, get_or-map-range_with_len}
use Rattle.std.proofs.lemmas.List.{length_push}
use Rattle.std.proofs.lemmas.List.Sums.{sum_by-cons, sum_by_push, sum_by-set}
use Rattle.esr_history.specs.declared.event.Refusal.{Refusal}
use Rattle.esr_history.specs.declared.event.Refusal.TheVariants.{NoSuchTransaction, AlreadyEnded}
use Rattle.esr_base.specs.declared.numbers.ItemId.{ItemId}
use Rattle.esr_base.specs.declared.numbers.TxnId.{TxnId}
use Rattle.esr_history.specs.declared.event.Event.{Event}
use Rattle.esr_history.specs.declared.event.Reply.{Reply}
use Rattle.esr_history.specs.declared.event.Event.TheVariants.{BeginUpdate, BeginQuery, Read, Write, Commit, Abort}
use Rattle.esr_history.specs.declared.event.Reply.TheVariants.{Begun, Wrote, Committed, Aborted, Refused}
use Rattle.esr_history.specs.Events.{BeginRecord, kind_of, begin_record_of, begin_records, txn_numbers, commits, aborts, reads_any, is_active, is_begun, is_refusal}
use Rattle.esr_history.specs.Machine.{DistanceFunction, Schedule, accepted_in, extended, reply_to, refusal, acceptance, first_reason, not_begun, ended, when}
use Rattle.esr_history.specs.WellFormed.{IsWellFormed}
use Rattle.esr_history.proofs.Allowed.{none_applies, end_allowed}
use Rattle.esr_history.proofs.LegalWellFormed.{done-refused, done-accepted, not_ended, begun_in_range}
use Rattle.esr_history.proofs.WellFormed.{active_parts}
use Rattle.esr_core.specs.declared.state.Transaction.{Transaction}
use Rattle.esr_core.specs.Represented.{transaction_after, transactions_after}
use Rattle.esr_core.proofs.Held.{IsBegin, begin_update, begin_query, is_active-unchanged, active-commit, active-abort, txn_numbers-unchanged}
use Rattle.esr_core.proofs.Rows.{rows-begin, rows-end}
use Rattle.esr_engine.specs.Capacity.{active_count, active_after, transaction_count, is_end, is_full, no_begin, taken}

-- the rows of active transactions are as many
rows_in : (events : List Event) (ts : List ℕ) → count_by (λ (r : Transaction). r.active) (map (transaction_after events) ts) ≡ count_by (is_active events) ts
rows_in events [] = refl
rows_in events (t ∷ ts) =
    sum_by-cons (λ (r : Transaction). cond r.active 1 0) (transaction_after events t) (map (transaction_after events) ts)
    ∙ (ap (λ n. cond (is_active events t) 1 0 + n) (rows_in events ts)
    ∙ sym (sum_by-cons (λ u. cond (is_active events u) 1 0) t ts))

rows_count : (events : List Event) → count_by (λ (r : Transaction). r.active) (transactions_after events) ≡ active_count events
rows_count events = rows_in events (txn_numbers events)

-- a begin is one more
count-begin : (events : List Event) → IsWellFormed events → (e : Event) (b : BeginRecord) → IsBegin e b → active_count (events ++ e ∷ []) ≡ active_count events + 1
count-begin events o e b is =
    let row : Transaction = record { kind = kind_of b.query; active = true; reads = 0 } in
    sym (rows_count (events ++ e ∷ []))
    ∙ (ap (count_by (λ (r : Transaction). r.active)) (sym (rows-begin events o e b is (transactions_after events) refl))
    ∙ (sum_by_push (λ (r : Transaction). cond r.active 1 0) (transactions_after events) row
    ∙ ap (λ n. n + 1) (rows_count events)))

-- an event that begins and ends nothing leaves them
count-unchanged : (events : List Event) (e : Event) → begin_record_of e ≡ None → ((t : ℕ) → commits t e ≡ false) → ((t : ℕ) → aborts t e ≡ false) → active_count (events ++ e ∷ []) ≡ active_count events
count-unchanged events e none c a =
    ap (λ (p : ℕ → Bool). count_by p (txn_numbers (events ++ e ∷ []))) (fun_ext (λ t. is_active-unchanged events e none c a t))
    ∙ ap (count_by (is_active events)) (txn_numbers-unchanged events e none)

-- the end of an active transaction is one less
count-end : (events : List Event) (e : Event) (t : ℕ) → begin_record_of e ≡ None → ((u : ℕ) → is_active (events ++ e ∷ []) u ≡ (is_active events u && not (t == u))) → ((u : ℕ) → reads_any u e ≡ false)
    → is_active events t ≡ true → active_count (events ++ e ∷ []) + 1 ≡ active_count events
count-end events e zero none ends by act =
    let n : (1 ≤ 0) × (0 < 1 + length (begin_records events)) = begun_in_range events 0 (active_parts events 0 act).0 in
    absurd (omega arith)
count-end events e (suc k) none ends by act =
    let f : Transaction → ℕ = λ r. cond r.active 1 0 in
    let table : List Transaction = transactions_after events in
    let r : Transaction = transaction_after events (suc k) in
    let n : (1 ≤ suc k) × (suc k < 1 + length (begin_records events)) = begun_in_range events (suc k) (active_parts events (suc k) act).0 in
    let long : length table ≡ length (begin_records events) = length-map-range_with_len (transaction_after events) 1 (length (begin_records events)) in
    let inside : k < length table = omega arith in
    let at : get_or table k r ≡ r = get_or-map-range_with_len (transaction_after events) 1 (length (begin_records events)) k (suc k) r (omega arith) (omega arith) in
    let after : set table k (record r { active = false }) ≡ transactions_after (events ++ e ∷ []) = rows-end events e none k r ends by table refl inside (sym at) in
    let sums : count_by (λ (q : Transaction). q.active) (set table k (record r { active = false })) + f (get_or table k r) ≡ count_by (λ (q : Transaction). q.active) table + 0 = sum_by-set f table k (record r { active = false }) r inside in
    let one : f (get_or table k r) ≡ 1 = ap f at ∙ ap (λ b. cond b 1 0) act in
    let new : count_by (λ (q : Transaction). q.active) (set table k (record r { active = false })) ≡ active_count (events ++ e ∷ []) = ap (count_by (λ (q : Transaction). q.active)) after ∙ rows_count (events ++ e ∷ []) in
    let old : count_by (λ (q : Transaction). q.active) table ≡ active_count events = rows_count events in
    omega (arith, sums, one, new, old)

-- the state after an entry with the machine's reply: the count by that reply, and an end only if a transaction was
-- active
pub record Counted (h : Schedule) (e : Event) (r : Reply) : Type 0 where
  pub some : is_end r ≡ true → 0 < active_count (accepted_in h)
  pub count : active_count (accepted_in (extended h e r)) ≡ active_after (active_count (accepted_in h)) r

-- a refused event
counted_refused : (h : Schedule) (e : Event) (r : Reply) (why : Refusal) → r ≡ Refused why → Counted h e r
counted_refused h e r why is = subst (Counted h e) (sym is) (record {
  some = λ f. absurd (false≢true f);
  count = ap active_count (done-refused h e why);
})

-- an event that begins and ends nothing
counted_same : (h : Schedule) (e : Event) (r : Reply) → begin_record_of e ≡ None → ((t : ℕ) → commits t e ≡ false) → ((t : ℕ) → aborts t e ≡ false) → is_refusal r ≡ false
    → active_after (active_count (accepted_in h)) r ≡ active_count (accepted_in h) → is_end r ≡ false → Counted h e r
counted_same h e r none c a accepted same no_end = record {
  some = λ f. absurd (false≢true (sym no_end ∙ f));
  count = ap active_count (done-accepted h e r accepted) ∙ (count-unchanged (accepted_in h) e none c a ∙ sym same);
}

below : (n : ℕ) → nat_le 1000000 n ≡ false → n + 1 ≤ 1000000
below n capacity = grind (arith, nat_tests)

above : (n : ℕ) → n + 1 ≤ 1000000 → nat_le 1000000 n ≡ false
above n capacity = grind (arith, nat_tests)

pair_of : (n m : ℕ) → (nat_lt 1000000 (n + 2) || nat_le 65535 m) ≡ false → n + 2 ≤ 1000000
pair_of n m capacity = grind (arith, nat_tests, or_parts)

begin_pair : (h : Schedule) → no_begin h ≡ false → taken h + 2 ≤ 1000000
begin_pair h capacity = pair_of (taken h) (transaction_count h) capacity

begin_capacity : (h : Schedule) → no_begin h ≡ false → taken h + 1 ≤ 1000000
begin_capacity h capacity = let more : taken h + 2 ≤ 1000000 = begin_pair h capacity in omega (arith, more)

-- if an end is refused, its transaction is not active
idle : (transaction_count active full : Bool) (why : Refusal) → (active ≡ true → transaction_count ≡ true) → first_reason (when (not transaction_count) NoSuchTransaction ∷ when (not active) AlreadyEnded ∷ []) ≡ Some why → (not active && full) ≡ false → full ≡ false
idle true true full why is some capacity = absurd (cc)
idle true false full why is some capacity = capacity
idle false true full why is some capacity = absurd (false≢true (is refl))
idle false false full why is some capacity = capacity

idle_capacity : (h : Schedule) (t : TxnId) (why : Refusal) → first_reason (not_begun h t.0 ∷ ended h t.0 ∷ []) ≡ Some why → (not (is_active (accepted_in h) t.0) && nat_le 1000000 (taken h)) ≡ false → nat_le 1000000 (taken h) ≡ false
idle_capacity h t why some capacity = idle (is_begun (accepted_in h) t.0) (is_active (accepted_in h) t.0) (nat_le 1000000 (taken h)) why (λ act. (active_parts (accepted_in h) t.0 act).0) some capacity

module _ (d : DistanceFunction) (h : Schedule) (o : IsWellFormed (accepted_in h)) where
  pub end_active : (t : TxnId) → first_reason (not_begun h t.0 ∷ ended h t.0 ∷ []) ≡ None → is_active (accepted_in h) t.0 ≡ true
  end_active t none = not_ended h t.0 (end_allowed h t (none_applies (not_begun h t.0 ∷ ended h t.0 ∷ []) none)).active

  counted_end : (e : Event) (t : TxnId) (r : Reply) → is_refusal r ≡ false → active_after (active_count (accepted_in h)) r ≡ active_count (accepted_in h) - 1
      → begin_record_of e ≡ None → ((u : ℕ) → is_active (accepted_in h ++ e ∷ []) u ≡ (is_active (accepted_in h) u && not (t.0 == u))) → ((u : ℕ) → reads_any u e ≡ false) → is_active (accepted_in h) t.0 ≡ true → Counted h e r
  counted_end e t r accepted less none ends by act =
      let one : active_count (accepted_in h ++ e ∷ []) + 1 ≡ active_count (accepted_in h) = count-end (accepted_in h) e t.0 none ends by act in
      let new : active_count (accepted_in (extended h e r)) ≡ active_count (accepted_in h ++ e ∷ []) = ap active_count (done-accepted h e r accepted) in
      record { some = λ f. omega arith; count = omega arith }

  accepted_counts : (e : Event) → refusal d h e ≡ None → Counted h e (acceptance h e)
  accepted_counts (BeginUpdate l) none = record {
    some = λ f. absurd (false≢true f);
    count = ap active_count (done-accepted h (BeginUpdate l) (Begun (record { 0 = length (begin_records (accepted_in h)) + 1 })) refl) ∙ count-begin (accepted_in h) o (BeginUpdate l) _ (begin_update l);
  }
  accepted_counts (BeginQuery l s) none = record {
    some = λ f. absurd (false≢true f);
    count = ap active_count (done-accepted h (BeginQuery l s) (Begun (record { 0 = length (begin_records (accepted_in h)) + 1 })) refl) ∙ count-begin (accepted_in h) o (BeginQuery l s) _ (begin_query l s);
  }
  accepted_counts (Read t x) none = counted_same h (Read t x) _ refl (λ u. refl) (λ u. refl) refl refl refl
  accepted_counts (Write t x v) none = counted_same h (Write t x v) _ refl (λ u. refl) (λ u. refl) refl refl refl
  accepted_counts (Commit t) none = counted_end (Commit t) t Committed refl refl refl (active-commit (accepted_in h) t) (λ u. refl) (end_active t none)
  accepted_counts (Abort t) none = counted_end (Abort t) t Aborted refl refl refl (active-abort (accepted_in h) t) (λ u. refl) (end_active t none)

  pub counted : (e : Event) → Counted h e (reply_to d h e)
  counted e = at (refusal d h e) refl
    where
      at : (why : Option Refusal) → refusal d h e ≡ why → Counted h e (reply_to d h e)
      at None none = rw none (accepted_counts e none)
      at (Some why) some = counted_refused h e (reply_to d h e) why (rw some refl)

  -- if the history has capacity for the event, it has capacity for the ends afterwards
  capacity_refused : (e : Event) (why : Refusal) → refusal d h e ≡ Some why → is_full h e ≡ false → taken h ≤ 1000000 → taken h + 1 ≤ 1000000
  capacity_refused (BeginUpdate l) why some capacity upper_bound = begin_capacity h capacity
  capacity_refused (BeginQuery l s) why some capacity upper_bound = begin_capacity h capacity
  capacity_refused (Read t x) why some capacity upper_bound = below (taken h) capacity
  capacity_refused (Write t x v) why some capacity upper_bound = below (taken h) capacity
  capacity_refused (Commit t) why some capacity upper_bound = below (taken h) (idle_capacity h t why some capacity)
  capacity_refused (Abort t) why some capacity upper_bound = below (taken h) (idle_capacity h t why some capacity)

  pub capacity_after : (e : Event) → is_full h e ≡ false → taken h ≤ 1000000 → length (extended h e (reply_to d h e)).entries + active_after (active_count (accepted_in h)) (reply_to d h e) ≤ 1000000
  capacity_after e capacity upper_bound = at (refusal d h e) refl
    where
      at : (why : Option Refusal) → refusal d h e ≡ why → length (extended h e (reply_to d h e)).entries + active_after (active_count (accepted_in h)) (reply_to d h e) ≤ 1000000
      at (Some why) some =
          let more : taken h + 1 ≤ 1000000 = capacity_refused e why some capacity upper_bound in
          let reply : reply_to d h e ≡ Refused why = rw some refl in
          let long : length (extended h e (Refused why)).entries ≡ length h.entries + 1 = length_push h.entries (record { event = e; reply = Refused why }) in
          subst (λ (r : Reply). length (extended h e r).entries + active_after (active_count (accepted_in h)) r ≤ 1000000) (sym reply) (omega (arith, long, more))
      at None none =
          let reply : reply_to d h e ≡ acceptance h e = rw none refl in
          subst (λ (r : Reply). length (extended h e r).entries + active_after (active_count (accepted_in h)) r ≤ 1000000) (sym reply) (accepted e none capacity)
        where
          accepted : (e : Event) → refusal d h e ≡ None → is_full h e ≡ false → length (extended h e (acceptance h e)).entries + active_after (active_count (accepted_in h)) (acceptance h e) ≤ 1000000
          accepted (BeginUpdate l) none capacity = let more : taken h + 2 ≤ 1000000 = begin_pair h capacity in omega (arith, length_push h.entries (record { event = BeginUpdate l; reply = Begun (record { 0 = length (begin_records (accepted_in h)) + 1 }) }), more)
          accepted (BeginQuery l s) none capacity = let more : taken h + 2 ≤ 1000000 = begin_pair h capacity in omega (arith, length_push h.entries (record { event = BeginQuery l s; reply = Begun (record { 0 = length (begin_records (accepted_in h)) + 1 }) }), more)
          accepted (Read t x) none capacity = let more : taken h + 1 ≤ 1000000 = below (taken h) capacity in omega (arith, length_push h.entries (record { event = Read t x; reply = acceptance h (Read t x) }), more)
          accepted (Write t x v) none capacity = let more : taken h + 1 ≤ 1000000 = below (taken h) capacity in omega (arith, length_push h.entries (record { event = Write t x v; reply = Wrote }), more)
          accepted (Commit t) none capacity = let some : 0 < active_count (accepted_in h) = (accepted_counts (Commit t) none).some refl in omega (arith, length_push h.entries (record { event = Commit t; reply = Committed }), some)
          accepted (Abort t) none capacity = let some : 0 < active_count (accepted_in h) = (accepted_counts (Abort t) none).some refl in omega (arith, length_push h.entries (record { event = Abort t; reply = Aborted }), some)

  -- an accepted write takes one entry
  pub taken_by_write : (t : TxnId) (x : ItemId) (v : ℤ) → reply_to d h (Write t x v) ≡ Wrote → taken (extended h (Write t x v) Wrote) ≡ taken h + 1
  taken_by_write t x v wrote =
      let count : active_count (accepted_in (extended h (Write t x v) Wrote)) ≡ active_count (accepted_in h) = (subst (Counted h (Write t x v)) wrote (counted (Write t x v))).count in
      omega (arith, length_push h.entries (record { event = Write t x v; reply = Wrote }), count)

  pub pair_capacity : (t : TxnId) (x : ItemId) (v : ℤ) → taken h + 2 ≤ 1000000 → reply_to d h (Write t x v) ≡ Wrote → is_full (extended h (Write t x v) Wrote) (Read t x) ≡ false
  pair_capacity t x v capacity wrote = let n : taken (extended h (Write t x v) Wrote) ≡ taken h + 1 = taken_by_write t x v wrote in above (taken (extended h (Write t x v) Wrote)) (omega arith)
