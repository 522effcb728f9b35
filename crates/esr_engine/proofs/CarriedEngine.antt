-- The engine of a carried history satisfies its invariant.
use Rattle.std.proofs.Common.{◌≡◌, ℕ, zero, suc, ◌+◌, ◌<◌, ◌≤◌, Bool, true, cond, List, [], ◌∷◌, ◌++◌, take, drop, length, count_by, get_or, refl, sym, ◌∙◌, ap, subst, arith, inl}
use Rattle.std.specs.List.{range_with_len}
use Rattle.std.proofs.lemmas.List.{length-map, length-take-le}
use Rattle.std.proofs.lemmas.List.Sums.{sum_by-cons, length-filter}
use Rattle.std.proofs.lemmas.Option.{slice_get-get_or}
use Rattle.esr_base.specs.declared.limits.TheConstants.{MAX_ENTRIES}
use Rattle.esr_items.specs.Weights.{weighted, weighted-equal_values, weighted_comm, weighted-triangle}
use Rattle.esr_history.specs.declared.event.Event.{Event}
use Rattle.esr_history.specs.declared.event.Entry.{Entry}
use Rattle.esr_history.specs.Events.{begin_records, is_active, txn_numbers}
use Rattle.esr_history.specs.Legal.{continued}
use Rattle.esr_history.specs.Machine.{IsLegal, IsLegalAfter, Schedule, accepted_in}
use Rattle.esr_history.specs.ReportBounds.{AreDistances}
use Rattle.esr_history.proofs.Membership.{In, In-append_right}
use Rattle.esr_core.specs.Renewed.{renewed}
use Rattle.esr_core.specs.Carried.{active_numbers, carried, carried_entries, new_number, IsCarriedOver}
use Rattle.esr_core.proofs.Fits.{law_of_carried_length}
use Rattle.esr_order.specs.Index.{Indexed, IsIndexOf}
use Rattle.esr_renewal.proofs.Again.{active_then}
use Rattle.esr_renewal.proofs.CarriedEntries.{carried_events}
use Rattle.esr_renewal.proofs.Carry.{law_of_carry}
use Rattle.esr_renewal.proofs.Renumbered.{in_active, number_after}
use Rattle.esr_renewal.proofs.Replayed.{begun_again, events_again, records}
use Rattle.esr_engine.specs.Capacity.{active_count, taken}
use Rattle.esr_engine.proofs.CarriedParts.{parts_at}
use Rattle.esr_engine.proofs.Ends.{index_later}
use Rattle.esr_engine.proofs.Stepped.{IsEngine}

distances : AreDistances weighted
distances = record { same = weighted-equal_values; symmetric = weighted_comm; triangle = weighted-triangle }

pub carried_over : (h : Schedule) → IsLegal weighted h → IsCarriedOver weighted h (carried weighted h)
carried_over h legal = law_of_carry weighted distances h legal

-- every number of a range passes
count_all : (p : ℕ → Bool) (a n : ℕ) → ((k : ℕ) → a ≤ k → k < a + n → p k ≡ true) → count_by p (range_with_len a n) ≡ n
count_all p a zero all = refl
count_all p a (suc n) all =
    let k = sum_by-cons (λ u. cond (p u) 1 0) a (range_with_len (a + 1) n) in
    let one : p a ≡ true = all a (omega arith) (omega arith) in
    let rest = count_all p (a + 1) n (λ k low high. all k (omega arith) (omega arith)) in
    k ∙ rw one (omega (arith, rest))

module _ (h : Schedule) where
  active_at : (k : ℕ) → 1 ≤ k → k < 1 + length (active_numbers h) → is_active (events_again weighted h (active_numbers h) (accepted_in h) (accepted_in h)) k ≡ true
  active_at zero low high = absurd (omega arith)
  active_at (suc i) low high =
      let inside : i < length (active_numbers h) = omega arith in
      let t : ℕ = get_or (active_numbers h) i 0 in
      let split : active_numbers h ≡ take i (active_numbers h) ++ t ∷ drop (suc i) (active_numbers h) = parts_at (active_numbers h) i t (slice_get-get_or (active_numbers h) i 0 inside) in
      let member : In t (active_numbers h) = subst (In t) (sym split) (In-append_right (take i (active_numbers h)) (t ∷ drop (suc i) (active_numbers h)) t (inl refl)) in
      let number = number_after h (take i (active_numbers h)) (drop (suc i) (active_numbers h)) t split in
      let before = length-take-le i (active_numbers h) (omega arith) in
      let same : (new_number h t).0 ≡ suc i = omega (arith, number, before) in
      ap (is_active (events_again weighted h (active_numbers h) (accepted_in h) (accepted_in h))) (sym same) ∙ active_then weighted h (accepted_in h) (accepted_in h) t (in_active h t member)

  pub count_kept : active_count (accepted_in (carried weighted h)) ≡ active_count (accepted_in h)
  count_kept =
      let all : List Event = events_again weighted h (active_numbers h) (accepted_in h) (accepted_in h) in
      let n : length (begin_records all) ≡ length (active_numbers h) = ap length (records weighted h (active_numbers h) (accepted_in h) (accepted_in h)) ∙ length-map (active_numbers h) (begun_again weighted h) in
      ap active_count (carried_events weighted h)
      ∙ (ap (λ k. count_by (is_active all) (range_with_len 1 k)) n
      ∙ (count_all (is_active all) 1 (length (active_numbers h)) active_at
      ∙ length-filter (is_active (accepted_in h)) (txn_numbers (accepted_in h))))

  pub room_kept : taken (carried weighted h) ≤ taken h
  room_kept = let a = count_kept in let b = law_of_carried_length weighted h in omega (arith, a, b)

  pub replays : IsLegal weighted h → (s : Schedule) → s ≡ renewed h h.weights → (es : List Entry) → es ≡ carried_entries weighted h → IsLegalAfter weighted s es
  replays legal s start es are =
      subst (λ (k : Schedule). IsLegalAfter weighted k es) (sym start) (subst (IsLegalAfter weighted (renewed h h.weights)) (sym are) (carried_over h legal).legal)

  pub replayed : (s : Schedule) → s ≡ renewed h h.weights → (es : List Entry) → es ≡ carried_entries weighted h → continued s es ≡ carried weighted h
  replayed s start es are = ap (λ (k : Schedule). continued k es) start ∙ ap (λ (l : List Entry). continued (renewed h h.weights) l) are

  pub carried_engine : (active : ℕ) → active ≡ active_count (accepted_in h) → length h.entries + active ≤ MAX_ENTRIES → (s : Schedule) → s ≡ renewed h h.weights
      → (weights : List ℕ) (none : ℕ) (index : Indexed) → IsEngine s weights none index → (g : Schedule) → g ≡ carried weighted h → IsEngine g weights active index
  carried_engine active count fits s start weights none index engine g is =
      let long = law_of_carried_length weighted h in
      let same : length g.entries ≡ length (carried weighted h).entries = ap (λ (k : Schedule). length k.entries) is in (
        engine.0 ∙ (ap (λ (k : Schedule). k.weights) start ∙ sym (ap (λ (k : Schedule). k.weights) is)),
        engine.1,
        engine.2,
        count ∙ (sym count_kept ∙ sym (ap (λ (k : Schedule). active_count (accepted_in k)) is)),
        omega (arith, long, same, fits),
        subst (λ (k : Schedule). IsIndexOf k.entries index) (sym is) (index_later [] (carried_entries weighted h) index (subst (λ (k : Schedule). IsIndexOf k.entries index) start engine.5)),
      )
