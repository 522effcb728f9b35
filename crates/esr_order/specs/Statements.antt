-- The laws of placements and closed sets.
use Rattle.std.specs.Prelude.{◌≡◌, ◌↔◌, ℕ, Bool, IsTrue, ◌&&◌, List, take}
use Rattle.esr_history.specs.declared.event.Entry.{Entry}
use Rattle.esr_history.specs.Events.{is_committed}
use Rattle.esr_history.specs.Machine.{DistanceFunction, Schedule, accepted_in, IsLegal}
use Rattle.esr_history.specs.Legal.{continued}
use Rattle.esr_history.specs.Serial.{state}
use Rattle.esr_history.specs.Queries.{members, cost, HasSameAudit}
use Rattle.esr_order.specs.Placements.{is_among, IsPlacement, IsLeastDistance, IsClosed, IsLeastSet, IsSmallestLeastSet}
use Rattle.esr_order.specs.Least.{nearest_placement, least_distance}

-- The closed sets of q are the parts before the positions of its placements, the serial state is the version that the
-- set leaves, and so the least distance of a placement is the least cost of a closed set.
pub record ClosedSetsAreParts (d : DistanceFunction) (h : Schedule) (q : ℕ) : Type 0 where
  pub part_is_closed : (order : List ℕ) (k : ℕ) → IsPlacement h q order k → IsClosed h q (is_among (take k order))
  pub part_leaves : (order : List ℕ) (k : ℕ) → IsPlacement h q order k → (x : ℕ)
      → state h (take k order) x ≡ state h (members h q (is_among (take k order))) x
  pub closed_is_part : (S : ℕ → Bool) → IsClosed h q S
      → (order : List ℕ) × (k : ℕ) × IsPlacement h q order k × (take k order ≡ members h q S)
  pub least : (n : ℕ) → IsLeastDistance d h q n ↔ ((S : ℕ → Bool) × IsLeastSet d h q S × (cost d h q S ≡ n))

abbrev pub LawOfPlacements : Type 0
LawOfPlacements = (d : DistanceFunction) (h : Schedule) (q : ℕ) → IsLegal d h → ClosedSetsAreParts d h q

-- The data of the audit of a committed query are the same in every longer legal history.
abbrev pub LawOfLongerHistories : Type 0
LawOfLongerHistories =
    (d : DistanceFunction) (h : Schedule) (rest : List Entry) (q : ℕ) → IsLegal d (continued h rest)
    → IsTrue (is_committed (accepted_in h) q) → HasSameAudit d h (continued h rest) q

-- The meet of two closed sets of least cost is one, so that the smallest is the meet of them all.
abbrev pub LawOfLeastSets : Type 0
LawOfLeastSets =
    (d : DistanceFunction) (h : Schedule) (q : ℕ) (S T : ℕ → Bool) → IsLeastSet d h q S → IsLeastSet d h q T
    → IsLeastSet d h q (λ u. S u && T u)

-- The smallest closed set of least cost is the one that is found by listing all closed sets.
abbrev pub LawOfListedSets : Type 0
LawOfListedSets =
    (d : DistanceFunction) (h : Schedule) (q : ℕ) (S : ℕ → Bool) → IsSmallestLeastSet d h q S
    → (members h q S ≡ nearest_placement d h q) × (cost d h q S ≡ least_distance d h q)
