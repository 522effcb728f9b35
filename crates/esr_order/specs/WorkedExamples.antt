-- Worked examples: distances of placements, chains of versions, and the row of an update.
use Rattle.std.specs.Prelude.{◌≡◌, ℕ, ℤ, pos, [], ◌∷◌, true, false, Some, None, refl, map, take}
use Rattle.esr_history.specs.Events.{accepted, is_committed}
use Rattle.esr_history.specs.WorkedExamples.{plain}
use Rattle.esr_history.specs.WorkedOrder.{order_through_a_third_item, two_updates_over_a_report, strict_report}
use Rattle.esr_order.specs.Placements.{placement_distance}
use Rattle.esr_order.specs.Chains.{chain_of}
use Rattle.esr_order.specs.Least.{nearest_placement, least_distance}
use Rattle.esr_order.specs.Scans.{Access, accesses_in}

-- before both updates, between them, and after both
third_item_placed : map (placement_distance plain order_through_a_third_item 1 (2 ∷ 3 ∷ [])) (0 ∷ 1 ∷ 2 ∷ [])
    ≡ 2 ∷ 8 ∷ 6 ∷ []
third_item_placed = refl

two_updates_placed : map (placement_distance plain two_updates_over_a_report 1 (2 ∷ 3 ∷ [])) (0 ∷ 1 ∷ 2 ∷ [])
    ≡ 8 ∷ 18 ∷ 1 ∷ []
two_updates_placed = refl

-- a strict query is placed after the update that it must have seen
strict_placed : placement_distance plain (strict_report true) 2 (1 ∷ []) 1 ≡ 5
strict_placed = refl

third_item_chains :
    map (chain_of order_through_a_third_item 1) (0 ∷ 1 ∷ 2 ∷ 3 ∷ [])
    ≡ Some (record { writers = 0 ∷ []; values = pos 6 ∷ [] }) ∷ Some (record { writers = 1 ∷ []; values = pos 2 ∷ [] })
    ∷ Some (record { writers = 0 ∷ []; values = pos 1 ∷ [] }) ∷ None ∷ []
third_item_chains = refl

two_updates_chain : chain_of two_updates_over_a_report 1 0
    ≡ Some (record { writers = 0 ∷ 1 ∷ []; values = pos 10 ∷ pos 1 ∷ [] })
two_updates_chain = refl

-- the smallest closed set of least cost, and its cost
third_item_least : nearest_placement plain order_through_a_third_item 1 ≡ []
third_item_least = refl

two_updates_least : nearest_placement plain two_updates_over_a_report 1 ≡ 2 ∷ 3 ∷ []
two_updates_least = refl

two_updates_cost : least_distance plain two_updates_over_a_report 1 ≡ 1
two_updates_cost = refl

-- a strict query has the update that it must have seen
strict_least : nearest_placement plain (strict_report true) 2 ≡ 1 ∷ []
strict_least = refl

-- The writes of an update while it runs, when it has committed, and in the whole history: after its commit, when it
-- gets a row, none is added.
abbrev wrote : ℕ → ℤ → Access
wrote x v = record { item = record { 0 = x }; writes = true; value = v }

third_item_row : map (λ n. accesses_in (take n order_through_a_third_item.entries) 2) (5 ∷ 7 ∷ 12 ∷ [])
    ≡ (wrote 0 (pos 6) ∷ []) ∷ (wrote 0 (pos 6) ∷ wrote 2 (pos 1) ∷ []) ∷ (wrote 0 (pos 6) ∷ wrote 2 (pos 1) ∷ []) ∷ []
third_item_row = refl

third_item_over : map (λ n. is_committed (accepted (take n order_through_a_third_item.entries)) 2) (5 ∷ 7 ∷ 12 ∷ [])
    ≡ false ∷ true ∷ true ∷ []
third_item_over = refl
