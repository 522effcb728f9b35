-- The placements of a committed query in serial orders of its updates, and the closed sets of its updates.
use Rattle.std.specs.Prelude.{◌≡◌, ◌≤◌, ℕ, Bool, IsTrue, List, ◌==◌, take, length, Contains, All}
use Rattle.std.specs.List.{list_any}
use Rattle.esr_history.specs.Machine.{DistanceFunction, Schedule}
use Rattle.esr_history.specs.Serial.{is_before, IsSerialOrder, state}
use Rattle.esr_history.specs.Queries.{updates_committed_before, must, distance_from, cost}

-- the members of a list, as a set
abbrev pub is_among : List ℕ → ℕ → Bool
is_among us u = list_any (λ v. v == u) us

-- a serial order of the updates of q, and a position in it; the prefix before the position contains the mandatory updates
pub record IsPlacement (h : Schedule) (q : ℕ) (order : List ℕ) (position : ℕ) : Type 0 where
  pub serial : IsSerialOrder h (updates_committed_before h q) order
  pub within : position ≤ length order
  pub holds_must : (u : ℕ) → Contains (must h q) u → Contains (take position order) u

-- the distance between the values that q read and the serial state at the position
abbrev pub placement_distance : DistanceFunction → Schedule → ℕ → List ℕ → ℕ → ℕ
placement_distance d h q order position = distance_from d h q (state h (take position order))

-- some placement of q has distance n, and none has less
pub record IsLeastDistance (d : DistanceFunction) (h : Schedule) (q : ℕ) (n : ℕ) : Type 0 where
  pub order : List ℕ
  pub position : ℕ
  pub is_placement : IsPlacement h q order position
  pub has : placement_distance d h q order position ≡ n
  pub none_less : (other : List ℕ) (k : ℕ) → IsPlacement h q other k → n ≤ placement_distance d h q other k

-- with each update of q, S contains all updates of q that precede it; and S contains the mandatory updates
pub record IsClosed (h : Schedule) (q : ℕ) (S : ℕ → Bool) : Type 0 where
  pub downward : (u v : ℕ) → Contains (updates_committed_before h q) u → Contains (updates_committed_before h q) v → IsTrue (is_before h u v)
      → IsTrue (S v) → IsTrue (S u)
  pub holds_must : (u : ℕ) → Contains (must h q) u → IsTrue (S u)

-- a closed set of least cost
pub record IsLeastSet (d : DistanceFunction) (h : Schedule) (q : ℕ) (S : ℕ → Bool) : Type 0 where
  pub closed : IsClosed h q S
  pub none_less : (T : ℕ → Bool) → IsClosed h q T → cost d h q S ≤ cost d h q T

-- a closed set of least cost that is contained in every closed set of least cost
pub record IsSmallestLeastSet (d : DistanceFunction) (h : Schedule) (q : ℕ) (S : ℕ → Bool) : Type 0 where
  pub least : IsLeastSet d h q S
  pub smallest : (T : ℕ → Bool) → IsLeastSet d h q T → All (λ u. IsTrue (S u) → IsTrue (T u)) (updates_committed_before h q)
