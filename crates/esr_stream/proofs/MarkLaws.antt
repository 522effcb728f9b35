-- The marked updates as a set of transactions: membership by position, and closed sets.
use Rattle.std.proofs.Common.{◌≡◌, ◌≢◌, ℕ, ◌+◌, ◌<◌, ◌≤◌, Bool, true, false, ◌&&◌, eqb, cond, List, [], ◌∷◌, ◌++◌, length, take, filter, refl, sym, ap, ◌∙◌, subst, ⊎_elim, inl, inr, arith, Contains, nat_lt}
use Rattle.std.specs.List.{range_with_len}
use Rattle.std.proofs.lemmas.Bool.{and_parts, and_from, eqb-true, eq-eqb, cases_lt, cases_order, ltb-true}
use Rattle.std.proofs.lemmas.List.{get_or_past}
use Rattle.esr_history.proofs.Ascending.{le_ltb}
use Rattle.esr_history.specs.Machine.{DistanceFunction, Schedule, IsLegal}
use Rattle.esr_history.specs.Serial.{is_before}
use Rattle.esr_history.specs.Queries.{updates_committed_before, must}
use Rattle.esr_history.proofs.Membership.{In, In-any, any-from_In, Contains-In, All-from_pairs}
use Rattle.esr_order.specs.Placements.{IsClosed}
use Rattle.esr_order.specs.Chains.{nth, update_at}
use Rattle.esr_order.proofs.Early.{must_positions, must_below}
use Rattle.esr_order.proofs.Lists.{of_map, at_place, same_truth}
use Rattle.esr_order.proofs.RelevantFound.{low_must}
use Rattle.esr_order.proofs.ConflictOrder.{in_order}
use Rattle.esr_order.proofs.Batches.{up}
use Rattle.esr_bound.specs.Amounts.{mark_at, among_marked, AreForced}
use Rattle.esr_bound.proofs.LowerBound.{in_range, range_in, pairs_at}
use Rattle.esr_stream.specs.Passes.{IsPrefixMarked, NoneMarkedFrom}

module _ (d : DistanceFunction) (h : Schedule) (q : ℕ) (legal : IsLegal d h) (marks : List Bool) where
  apart : (i j : ℕ) → i < j → j < length (updates_committed_before h q) → nth (updates_committed_before h q) i ≡ nth (updates_committed_before h q) j → ⊥
  apart i j l m = pairs_at (λ u v. u ≡ v → ⊥) (updates_committed_before h q) (in_order d h q legal).once i j l m

  same_position : (i j : ℕ) → i < length (updates_committed_before h q) → j < length (updates_committed_before h q) → nth (updates_committed_before h q) i ≡ nth (updates_committed_before h q) j → i ≡ j
  same_position i j l m e = ⊎_elim (λ s. s) (λ o. ⊎_elim (λ lt. absurd (apart i j lt m e)) (λ gt. absurd (apart j i gt l (sym e))) o) (cases_order i j)

  -- an update is in the marked set if and only if its position is marked
  pub marked_position : (u : ℕ) → among_marked (updates_committed_before h q) marks u ≡ true → (i : ℕ) × (i < length (updates_committed_before h q)) × (mark_at marks i ≡ true) × (nth (updates_committed_before h q) i ≡ u)
  marked_position u m =
      let r = In-any (λ i. mark_at marks i && eqb (nth (updates_committed_before h q) i) u) (range_with_len 0 (length (updates_committed_before h q))) m in
      let b = and_parts (mark_at marks r.0) (eqb (nth (updates_committed_before h q) r.0) u) r.2 in
      let low : r.0 < length (updates_committed_before h q) = omega (arith, (range_in 0 (length (updates_committed_before h q)) r.0 r.1).1) in
      (r.0, low, b.0, eqb-true (nth (updates_committed_before h q) r.0) u b.1)

  pub position_marked : (i : ℕ) → i < length (updates_committed_before h q) → mark_at marks i ≡ true → among_marked (updates_committed_before h q) marks (nth (updates_committed_before h q) i) ≡ true
  position_marked i l m =
      any-from_In (λ j. mark_at marks j && eqb (nth (updates_committed_before h q) j) (nth (updates_committed_before h q) i)) (range_with_len 0 (length (updates_committed_before h q))) i (in_range 0 (length (updates_committed_before h q)) i (omega arith) (omega (arith, l)))
      (and_from (mark_at marks i) (eqb (nth (updates_committed_before h q) i) (nth (updates_committed_before h q) i)) m (eq-eqb (nth (updates_committed_before h q) i) (nth (updates_committed_before h q) i) refl))

  pub mark_is : (i : ℕ) → i < length (updates_committed_before h q) → among_marked (updates_committed_before h q) marks (nth (updates_committed_before h q) i) ≡ mark_at marks i
  mark_is i l = same_truth (among_marked (updates_committed_before h q) marks (nth (updates_committed_before h q) i)) (mark_at marks i)
      (λ t. let r = marked_position (nth (updates_committed_before h q) i) t in subst (λ j. mark_at marks j ≡ true) (same_position r.0 i r.1 l r.3) r.2)
      (position_marked i l)

  -- a marked set with the predecessors of its members and the updates that q must see is closed
  pub closed_set : (first : ℕ) → first ≡ length (must h q) → IsPrefixMarked first marks
      → ((i j : ℕ) → i < j → j < length (updates_committed_before h q) → is_before h (nth (updates_committed_before h q) i) (nth (updates_committed_before h q) j) ≡ true → mark_at marks j ≡ true → mark_at marks i ≡ true)
      → IsClosed h q (among_marked (updates_committed_before h q) marks)
  closed_set first is firsts down = record {
    downward = λ u v cu cv b sv.
        let i = at_place (updates_committed_before h q) u (Contains-In (updates_committed_before h q) u cu) in
        let j = marked_position v sv in
        let before : is_before h (nth (updates_committed_before h q) i.0) (nth (updates_committed_before h q) j.0) ≡ true = ap (λ w. is_before h w (nth (updates_committed_before h q) j.0)) i.2 ∙ ap (is_before h u) j.3 ∙ b in
        let low : i.0 < j.0 = up h (updates_committed_before h q) (All-from_pairs (λ u v. u ≢ v) (updates_committed_before h q) (in_order d h q legal).once) (All-from_pairs (λ u v. is_before h v u ≡ false) (updates_committed_before h q) (in_order d h q legal).keeps) i.0 j.0 i.1 j.1 before in
        subst (λ w. among_marked (updates_committed_before h q) marks w ≡ true) i.2 (position_marked i.0 i.1 (down i.0 j.0 low j.1 before j.2));
    holds_must = λ u c.
        let n = length (must h q) in
        let k = of_map (update_at h q) (range_with_len 0 n) u (subst (In u) (sym (must_positions d h q legal n refl)) (Contains-In (must h q) u c)) in
        let l : k.0 < n = omega (arith, (range_in 0 n k.0 k.1).1) in
        let most : n ≤ length (updates_committed_before h q) = must_below d h q legal in
        subst (λ w. among_marked (updates_committed_before h q) marks w ≡ true) k.2 (position_marked k.0 (omega (arith, l, most)) (firsts k.0 (omega (arith, l, is))));
  }

  -- the members so far
  pub members_more : (k : ℕ) (xs : List ℕ) → k < length (updates_committed_before h q) → xs ≡ filter (among_marked (updates_committed_before h q) marks) (take k (updates_committed_before h q))
      → xs ++ cond (mark_at marks k) (nth (updates_committed_before h q) k ∷ []) [] ≡ filter (among_marked (updates_committed_before h q) marks) (take (k + 1) (updates_committed_before h q))
  members_more k xs l is =
      let S = among_marked (updates_committed_before h q) marks in
      ap (λ ys. ys ++ cond (mark_at marks k) (nth (updates_committed_before h q) k ∷ []) []) is
      ∙ ap (λ b. filter S (take k (updates_committed_before h q)) ++ cond b (nth (updates_committed_before h q) k ∷ []) []) (sym (mark_is k l))
      ∙ sym (ap (filter S) (Rattle.std.proofs.lemmas.List.take_more (updates_committed_before h q) k 0 l) ∙ Rattle.std.proofs.lemmas.List.Elements.filter-append S (take k (updates_committed_before h q)) (nth (updates_committed_before h q) k ∷ []))

-- the updates that q must see are in every closed set
pub first_forced : (d : DistanceFunction) (h : Schedule) (q : ℕ) → IsLegal d h → (n worth : ℕ) (C : ℕ → Rattle.std.proofs.Common.ℤ → ℕ) (first : ℕ) (marks : List Bool) → first ≡ length (must h q)
    → ((i : ℕ) → i < length (updates_committed_before h q) → mark_at marks i ≡ nat_lt i first) → AreForced n C h q worth marks
first_forced d h q legal n worth C first marks is only S closed low i l m =
    let early : i < first = ltb-true i first (sym (only i l) ∙ m) in
    closed.holds_must (nth (updates_committed_before h q) i) (low_must d h q legal i (omega (arith, early, is)))

-- only the first updates are marked
pub none_marked_first : (first : ℕ) (marks : List Bool) → ((i : ℕ) → i < length marks → mark_at marks i ≡ nat_lt i first) → NoneMarkedFrom first marks
none_marked_first first marks only i low = elim (cases_lt i (length marks)) [
  | inl l ↦ only i l ∙ le_ltb i first low
  | inr past ↦ get_or_past marks i false past
]
