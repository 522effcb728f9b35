-- The rows while the arcs are laid one after another, and the index of a step in them.
use Rattle.std.proofs.Common.{◌≡◌, refl, ℕ, ◌+◌, ◌-◌, ◌*◌, ◌<◌, ◌≤◌, true, false, ltb, List, [], ◌∷◌, ◌++◌, Contains, length, get_or, set, take, sum, sym, ap, ◌∙◌, subst, inl, inr, arith}
use Rattle.std.specs.List.Sorted.{IsNonDecreasingBy, IsPartitionPoint}
use Rattle.std.proofs.lemmas.Bool.{cases_lt, ltb-true, ltb-false}
use Rattle.std.proofs.lemmas.List.{get_or_default}
use Rattle.esr_cert.specs.declared.adjacency.TheConstants.{MAX_ARCS}
use Rattle.esr_cert.specs.Network.{arc_at, EndsAreNodes, Arc}
use Rattle.esr_cert.specs.ResidualArcs.{arc_of, rank_of, start, step_at, AreOnce, ResidualArc, Forward, Backward}
use Rattle.esr_cert.specs.Adjacency.{span_at, row_in, residual_arcs_below, steps_from, row_of, AreRows, AreSteps, Filled, IsAdjacencyUpTo, lengthen, Span}
use Rattle.esr_cert.proofs.ResidualArcsLaws.{first_next, has_steps}
use Rattle.esr_cert.proofs.AdjacencyLaws.{row_length, at_row, filled_more, place_within, capacity_along, capacity_against, filled_all, step_with}

pub laid_long : {arcs : List Arc} {node_count i : ℕ} {spans : List Span} {steps : List ResidualArc} → IsAdjacencyUpTo arcs node_count i spans steps → length steps ≡ 2 * length arcs
laid_long h = h.filled.total ∙ h.are.both

-- the two steps of an arc are put into the rows of its ends
module _ {arcs : List Arc} {node_count i : ℕ} {spans : List Span} {steps : List ResidualArc} (l : i < length arcs) (ends : EndsAreNodes arcs node_count) (h : IsAdjacencyUpTo arcs node_count i spans steps) where
  abbrev from : ℕ
  from = (arc_at arcs i).from

  abbrev to : ℕ
  to = (arc_at arcs i).to

  known_from : from < length h.degrees
  known_from = omega (arith, (ends i l).0, h.are.count)

  known_to : to < length h.degrees
  known_to = omega (arith, (ends i l).1, h.are.count)

  capacity_from : length (steps_from arcs from (residual_arcs_below i)) < get_or h.degrees from 0
  capacity_from = capacity_along arcs node_count h.degrees i from h.are l (ends i l).0 refl

  capacity_to : length (steps_from arcs to (residual_arcs_below i ++ Forward i ∷ [])) < get_or h.degrees to 0
  capacity_to = capacity_against arcs node_count h.degrees i to h.are l (ends i l).1 refl

  pub within_along : (span_at spans from).end < length steps
  within_along = place_within arcs h.degrees (residual_arcs_below i) spans steps (Forward i) from refl known_from capacity_from h.filled

  module _ (spans_along : List Span) (steps_along : List ResidualArc) (e : spans_along ≡ lengthen spans from) (q : steps_along ≡ set steps (span_at spans from).end (Forward i)) where
    filled_along : Filled arcs h.degrees (residual_arcs_below i ++ Forward i ∷ []) spans_along steps_along
    filled_along =
        subst (λ list. Filled arcs h.degrees (residual_arcs_below i ++ Forward i ∷ []) list steps_along) (sym e)
        (subst (Filled arcs h.degrees (residual_arcs_below i ++ Forward i ∷ []) (lengthen spans from)) (sym q)
        (filled_more arcs h.degrees (residual_arcs_below i) spans steps (Forward i) from refl known_from capacity_from h.filled))

    pub within_against : (span_at spans_along to).end < length steps_along
    within_against = place_within arcs h.degrees (residual_arcs_below i ++ Forward i ∷ []) spans_along steps_along (Backward i) to refl known_to capacity_to filled_along

    filled_against : Filled arcs h.degrees (residual_arcs_below (i + 1)) (lengthen spans_along to) (set steps_along (span_at spans_along to).end (Backward i))
    filled_against =
        subst (λ done. Filled arcs h.degrees done (lengthen spans_along to) (set steps_along (span_at spans_along to).end (Backward i))) (first_next i)
        (filled_more arcs h.degrees (residual_arcs_below i ++ Forward i ∷ []) spans_along steps_along (Backward i) to refl known_to capacity_to filled_along)

    pub laid_more : (spans_against : List Span) (steps_against : List ResidualArc) → spans_against ≡ lengthen spans_along to → steps_against ≡ set steps_along (span_at spans_along to).end (Backward i) → IsAdjacencyUpTo arcs node_count (i + 1) spans_against steps_against
    laid_more spans_against steps_against u v = record {
      degrees = h.degrees;
      are = h.are;
      filled = subst (λ list. Filled arcs h.degrees (residual_arcs_below (i + 1)) list steps_against) (sym u)
          (subst (Filled arcs h.degrees (residual_arcs_below (i + 1)) (lengthen spans_along to)) (sym v) filled_against);
    }

pub laid_rows : {arcs : List Arc} {node_count i : ℕ} {spans : List Span} {steps : List ResidualArc} → i ≡ length arcs → IsAdjacencyUpTo arcs node_count i spans steps → AreRows arcs node_count spans steps
laid_rows {arcs} {node_count} {i} {spans} {steps} e adjacency =
    let h : IsAdjacencyUpTo arcs node_count (length arcs) spans steps = subst (λ n. IsAdjacencyUpTo arcs node_count n spans steps) e adjacency in
    filled_all arcs node_count h.degrees spans steps h.are h.filled

-- a step is in the row of the node where it starts, exactly once
pub laid_steps : {arcs : List Arc} {node_count i : ℕ} {spans : List Span} {steps : List ResidualArc} → length arcs ≤ MAX_ARCS → i ≡ length arcs → IsAdjacencyUpTo arcs node_count i spans steps → AreSteps arcs steps
laid_steps {arcs} {node_count} {i} {spans} {steps} count_within_max e adjacency = record { count_within_max = count_within_max; count = laid_long adjacency; arc_in_range = arc_in_range; once = once }
  where
    h : IsAdjacencyUpTo arcs node_count (length arcs) spans steps
    h = subst (λ n. IsAdjacencyUpTo arcs node_count n spans steps) e adjacency

    arc_in_range : (k : ℕ) → k < length steps → arc_of (step_at steps k) < length arcs
    arc_in_range k l =
        let (v, a, in_v, in_row, at_k, is_k) = step_with arcs node_count h.degrees spans steps h.are h.filled k l in
        subst (λ s. arc_of s < length arcs) (sym is_k) ((has_steps arcs v).starts a in_row).0

    once : AreOnce steps
    once j k l m same =
        let (v, a, in_v, in_row, at_j, is_j) = step_with arcs node_count h.degrees spans steps h.are h.filled j l in
        let (u, b, in_u, in_other, at_k, is_k) = step_with arcs node_count h.degrees spans steps h.are h.filled k m in
        let node : v ≡ u = sym ((has_steps arcs v).starts a in_row).1 ∙ ap (start arcs) (sym is_j ∙ same ∙ is_k) ∙ ((has_steps arcs u).starts b in_other).1 in
        let place : a ≡ b =
        (has_steps arcs v).once a b in_row (omega (arith, ap (λ w. length (row_of arcs w)) node)) (sym is_j ∙ same ∙ is_k ∙ ap (λ w. step_at (row_of arcs w) b) (sym node)) in
        omega (arith, at_j, at_k, place, ap (λ w. sum (take w h.degrees)) node)

same_rank : (s t : ResidualArc) → rank_of s ≡ rank_of t → s ≡ t
same_rank (Forward i) (Forward j) e = ap (λ n. Forward n) (omega arith)
same_rank (Forward i) (Backward j) e = absurd (omega arith)
same_rank (Backward i) (Forward j) e = absurd (omega arith)
same_rank (Backward i) (Backward j) e = ap (λ n. Backward n) (omega arith)

-- the step is at the index after the steps before it
found_at : (row : List ResidualArc) (step : ResidualArc) (k : ℕ) → IsNonDecreasingBy rank_of row → Contains row step → IsPartitionPoint (λ t. ltb (rank_of t) (rank_of step) ≡ true) (λ t. ltb (rank_of t) (rank_of step) ≡ false) row k → (k < length row) × (step_at row k ≡ step)
found_at row step k rise (j, l, at) (before, after) =
    let is : rank_of (step_at row j) ≡ rank_of step = ap rank_of (get_or_default row j (Forward 0) step l ∙ at) in
    let low : k ≤ j = elim (cases_lt j k) [
      | inl m ↦ absurd (omega (arith, is, ltb-true (rank_of (step_at row j)) (rank_of step) (before j (Forward 0) (omega arith) m)))
      | inr m ↦ m
    ] in
    let at_most : rank_of (step_at row k) ≤ rank_of (step_at row j) = rise k j (Forward 0) low l in
    let at_least : rank_of step ≤ rank_of (step_at row k) = ltb-false (rank_of (step_at row k)) (rank_of step) (after k (Forward 0) (omega arith) (omega arith)) in
    (omega arith, same_rank (step_at row k) step (omega arith))

-- the result of the search for a step in the row of its node
pub found_place : (steps row : List ResidualArc) (span : Span) (step : ResidualArc) (k : ℕ) → row ≡ row_in steps span → span.end ≤ length steps → IsNonDecreasingBy rank_of (row_in steps span) → Contains (row_in steps span) step → IsPartitionPoint (λ t. ltb (rank_of t) (rank_of step) ≡ true) (λ t. ltb (rank_of t) (rank_of step) ≡ false) row k → (span.begin + k < length steps) × (step_at steps (span.begin + k) ≡ step)
found_place steps row span step k e inside rise has point =
    let (l, at) = found_at (row_in steps span) step k rise has (subst (λ list. IsPartitionPoint (λ t. ltb (rank_of t) (rank_of step) ≡ true) (λ t. ltb (rank_of t) (rank_of step) ≡ false) list k) e point) in
    let short : k < span.end - span.begin = omega (arith, row_length steps span inside) in
    (omega arith, sym (at_row steps span k (Forward 0) short) ∙ at)
