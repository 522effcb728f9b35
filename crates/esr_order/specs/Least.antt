-- The smallest closed set of least cost, found by listing all closed sets of a query's updates.
use Rattle.std.specs.Prelude.{ℕ, ◌++◌, Bool, not, ◌&&◌, ◌||◌, nat_le, List, [], ◌∷◌, filter, map}
use Rattle.std.specs.List.{list_all}
use Rattle.esr_history.specs.Machine.{DistanceFunction, Schedule}
use Rattle.esr_history.specs.Serial.{is_before}
use Rattle.esr_history.specs.Queries.{updates_committed_before, must, cost}
use Rattle.esr_order.specs.Placements.{is_among}

-- all sublists of a list
abbrev pub parts : List ℕ → List (List ℕ)
parts [] = [] ∷ []
parts (u ∷ us) = map (λ part. u ∷ part) (parts us) ++ parts us

-- whether a list is a closed set: with each member it contains all updates of q that precede it; and it contains the
-- mandatory updates
abbrev pub is_closed_part : Schedule → ℕ → List ℕ → Bool
is_closed_part h q part =
    list_all (λ v. list_all (λ u. not (is_before h u v) || is_among part u) (updates_committed_before h q)) part
    && list_all (is_among part) (must h q)

-- the closed sets of q's updates
abbrev pub closed_parts : Schedule → ℕ → List (List ℕ)
closed_parts h q = filter (is_closed_part h q) (parts (updates_committed_before h q))

-- whether no closed set costs less than this one
abbrev pub is_least_part : DistanceFunction → Schedule → ℕ → List ℕ → Bool
is_least_part d h q part =
    list_all (λ other. nat_le (cost d h q (is_among part)) (cost d h q (is_among other))) (closed_parts h q)

-- the closed sets of least cost
abbrev pub least_parts : DistanceFunction → Schedule → ℕ → List (List ℕ)
least_parts d h q = filter (is_least_part d h q) (closed_parts h q)

-- the intersection of the closed sets of least cost, in commit order: the smallest of them
abbrev pub nearest_placement : DistanceFunction → Schedule → ℕ → List ℕ
nearest_placement d h q = filter (λ u. list_all (λ part. is_among part u) (least_parts d h q)) (updates_committed_before h q)

-- the least distance: the cost of the nearest placement
abbrev pub least_distance : DistanceFunction → Schedule → ℕ → ℕ
least_distance d h q = cost d h q (is_among (nearest_placement d h q))
