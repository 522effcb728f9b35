-- The arcs that leave a set of nodes, and their capacity. A set that contains the source but not the sink is a cut.
use Rattle.std.specs.Prelude.{◌≡◌, ℕ, ◌+◌, ◌<◌, List, [], ◌∷◌, length, Bool, true, not, ◌&&◌, ◌==◌, nat_lt, if◌then◌else◌, Option, Some, None}
use Rattle.esr_cert.specs.Network.{Arc, arc_at}

-- an arc leaves the set
abbrev pub leaves : (ℕ → Bool) → Arc → Bool
leaves in_set arc = in_set arc.from && not (in_set arc.to)

-- an arc enters the set
abbrev pub enters : (ℕ → Bool) → Arc → Bool
enters in_set arc = not (in_set arc.from) && in_set arc.to

-- a capacity, or 0 if it is infinite (None)
abbrev pub finite_capacity_or_zero : Option ℕ → ℕ
finite_capacity_or_zero None = 0
finite_capacity_or_zero (Some c) = c

-- the sum of the finite capacities of the arcs that leave a set; arcs of infinite capacity are not counted
abbrev pub cut_capacity : (ℕ → Bool) → List Arc → ℕ
cut_capacity in_set [] = 0
cut_capacity in_set (arc ∷ arcs) = (if leaves in_set arc then finite_capacity_or_zero arc.capacity else 0) + cut_capacity in_set arcs

-- a capacity is finite; None is the infinite one
abbrev pub IsFinite : Option ℕ → Type 0
IsFinite None = ⊥
IsFinite (Some c) = Unit {0}

-- each arc that leaves the set has a finite capacity
abbrev pub HasFiniteCapacity : (ℕ → Bool) → List Arc → Type 0
HasFiniteCapacity in_set arcs =
    (i : ℕ) → i < length arcs → leaves in_set (arc_at arcs i) ≡ true → IsFinite (arc_at arcs i).capacity

-- a set of updates, which are nodes below n, together with the source, which is node n
abbrev pub with_source : ℕ → (ℕ → Bool) → ℕ → Bool
with_source n in_set v = if nat_lt v n then in_set v else (v == n)
