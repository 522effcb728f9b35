-- The laws of placements over legal histories.
use Rattle.std.proofs.Common.{◌≡◌, ℕ, ◌+◌, ◌<◌, ◌≤◌, Bool, false, List, [], ◌∷◌, length, take, drop, sym, ◌∙◌, ap, subst, filter, eqb, arith, inl, inr, take-append-drop}
use Rattle.std.specs.List.{before_first, position_or_len, list_any, AllByRecursion, IsDistinct}
use Rattle.std.proofs.lemmas.Bool.{or_left, ne_eqb, eqb-true}
use Rattle.std.proofs.lemmas.Map.Steps.{length-le_from_distinct_below}
use Rattle.std.proofs.lemmas.List.Elements.{filter-append}
use Rattle.esr_history.specs.Events.{is_update, begin_records}
use Rattle.esr_history.specs.Machine.{DistanceFunction, Schedule, accepted_in, IsLegal}
use Rattle.esr_history.specs.Operations.{commit_order}
use Rattle.esr_history.specs.Serial.{is_before}
use Rattle.esr_history.specs.Queries.{updates_committed_before}
use Rattle.esr_history.proofs.Membership.{In, Pairs, Pairs-left, In-of_filter, In-any, each_in, each_at, any-from_number}
use Rattle.esr_history.proofs.Bounded.{In-before_first}
use Rattle.esr_history.proofs.LegalWellFormed.{begun_in_range}
use Rattle.esr_history.proofs.Locking.{known}
use Rattle.esr_history.proofs.WithinRanges.{legal_begins}
use Rattle.esr_history.proofs.TraceAgreement.{trace}
use Rattle.esr_history.proofs.TraceOfHistory.{legal_reached}
use Rattle.esr_history.proofs.Laws.{updates_once, updates_in_order}
use Rattle.esr_order.specs.Statements.{ClosedSetsAreParts}
use Rattle.esr_order.proofs.Placed.{InOrder, closed_sets_are_parts}

-- a property of all pairs holds of the pairs before one
front_pairs : (R : ℕ → ℕ → Type 0) (p f : ℕ → Bool) (xs : List ℕ) → Pairs R (filter p xs) → Pairs R (filter p (before_first f xs))
front_pairs R p f xs h =
    let n : ℕ = position_or_len f xs in
    Pairs-left R (filter p (take n xs)) (filter p (drop n xs)) (subst (Pairs R) (ap (filter p) (sym (take-append-drop n xs)) ∙ filter-append p (take n xs) (drop n xs)) h)

pub in_order : (d : DistanceFunction) (h : Schedule) (q : ℕ) → IsLegal d h → InOrder h q
in_order d h q legal = record {
  once = front_pairs (λ u v. u ≡ v → ⊥) (is_update (accepted_in h)) (λ u. eqb u q) (commit_order (accepted_in h)) (updates_once d h legal);
  keeps = front_pairs (λ u v. is_before h v u ≡ false) (is_update (accepted_in h)) (λ u. eqb u q) (commit_order (accepted_in h)) (updates_in_order d h legal);
}

pub law_of_placements : (d : DistanceFunction) (h : Schedule) (q : ℕ) → IsLegal d h → ClosedSetsAreParts d h q
law_of_placements d h q legal = closed_sets_are_parts h q (in_order d h q legal) d

module _ (d : DistanceFunction) (h : Schedule) (q : ℕ) (legal : IsLegal d h) where
  -- an update of q has begun
  pub listed_begun : (u : ℕ) → In u (updates_committed_before h q) → (1 ≤ u) × (u < 1 + length (begin_records (accepted_in h)))
  listed_begun u i =
      let c : In u (commit_order (accepted_in h)) = In-before_first (λ t. eqb t q) (commit_order (accepted_in h)) u (In-of_filter (is_update (accepted_in h)) (before_first (λ t. eqb t q) (commit_order (accepted_in h))) u i).0 in
      begun_in_range (accepted_in h) u ((known (legal_reached d h legal)).of_ends u (or_left (list_any (λ w. eqb w u) (commit_order (accepted_in h))) (list_any (λ w. eqb w u) (trace h).aborts) (any-from_number (commit_order (accepted_in h)) u c)))

  distinct : (us : List ℕ) → Pairs (λ u v. u ≡ v → ⊥) us → IsDistinct eqb us
  unfolding IsDistinct
  distinct [] once = tt
  distinct (u ∷ us) once = (each_in (λ v. eqb u v ≡ false) us (λ v i. ne_eqb u v (each_at (λ w. u ≡ w → ⊥) us v once.0 i)), distinct us once.1)

  -- there are as many updates as numbers at most
  pub bounded_updates : length (updates_committed_before h q) ≤ 65535
  bounded_updates =
      let begins : length (begin_records (accepted_in h)) ≤ 65535 = legal_begins d h legal in
      let none : AllByRecursion (λ u. 0 ≡ u → ⊥) (updates_committed_before h q) = each_in (λ u. 0 ≡ u → ⊥) (updates_committed_before h q) (λ u i e. let low : 1 ≤ u = (listed_begun u i).0 in omega (arith, low, e)) in
      let all : length (0 ∷ updates_committed_before h q) ≤ 1 + length (begin_records (accepted_in h)) =
      length-le_from_distinct_below (0 ∷ updates_committed_before h q) (1 + length (begin_records (accepted_in h))) (distinct (0 ∷ updates_committed_before h q) (none, (in_order d h q legal).once))
      (λ u some. let w = In-any (eqb u) (0 ∷ updates_committed_before h q) some in subst (λ v. v < 1 + length (begin_records (accepted_in h))) (sym (eqb-true u w.0 w.2)) (elim w.1 [ inl zero_is ↦ below w.0 zero_is | inr i ↦ (listed_begun w.0 i).1 ])) in
      shorter (updates_committed_before h q) (length (begin_records (accepted_in h))) all begins
    where
      below : (v : ℕ) → 0 ≡ v → v < 1 + length (begin_records (accepted_in h))
      below v e = omega (arith, e)

      shorter : (us : List ℕ) (n : ℕ) → length (0 ∷ us) ≤ 1 + n → n ≤ 65535 → length us ≤ 65535
      shorter us n l m = omega arith
