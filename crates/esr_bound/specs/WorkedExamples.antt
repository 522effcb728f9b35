-- Worked examples: the costs of versions along the commit order, amounts below these, and the costs of closed sets.
use Rattle.std.specs.Prelude.{◌≡◌, ◌==◌, ℕ, ℤ, true, false, List, [], ◌∷◌, refl, map, sum_by, slice_index_or, if◌then◌else◌}
use Rattle.esr_history.specs.Machine.{value_distance}
use Rattle.esr_history.specs.Queries.{reads_by}
use Rattle.esr_history.specs.WorkedExamples.{plain}
use Rattle.esr_history.specs.WorkedOrder.{two_updates_over_a_report}
use Rattle.esr_bound.specs.Amounts.{total, cost_by, left_by_all, among_marked}
use Rattle.esr_history.specs.Queries as queries

-- the distance of the report's reads of item x from a version
abbrev cost_of : ℕ → ℤ → ℕ
cost_of x v = sum_by (λ o. if o.item == x then value_distance plain two_updates_over_a_report x o.value v else 0) (reads_by two_updates_over_a_report 1)

-- the costs of the two items at the start, after the first update, and after both
costs_along : map (λ k. map (λ x. cost_of x (left_by_all two_updates_over_a_report 1 k x)) (0 ∷ 1 ∷ [])) (0 ∷ 1 ∷ 2 ∷ [])
    ≡ (0 ∷ 8 ∷ []) ∷ (10 ∷ 8 ∷ []) ∷ (1 ∷ 0 ∷ []) ∷ []
costs_along = refl

-- amounts below these costs, whose sum is always 1
abbrev amounts : List (List ℕ)
amounts = (0 ∷ 1 ∷ []) ∷ (0 ∷ 1 ∷ []) ∷ (1 ∷ 0 ∷ []) ∷ []

amounts_along : map (λ row. total 2 (λ x. slice_index_or row x 0)) amounts ≡ 1 ∷ 1 ∷ 1 ∷ []
amounts_along = refl

-- so no closed set costs less than 1: the costs with neither update, with the first, and with both
marked_costs : map (λ marks. cost_by 2 cost_of two_updates_over_a_report 1 (among_marked (queries.updates_committed_before two_updates_over_a_report 1) marks))
    ((false ∷ false ∷ []) ∷ (true ∷ false ∷ []) ∷ (true ∷ true ∷ []) ∷ []) ≡ 8 ∷ 18 ∷ 1 ∷ []
marked_costs = refl
