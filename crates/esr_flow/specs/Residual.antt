-- The residual network of a flow: forward steps over arcs with unused capacity, backward over arcs that carry flow.
use Rattle.std.specs.Prelude.{◌≡◌, ℕ, suc, ◌+◌, ◌-◌, ◌<◌, ◌≤◌, true, min, List, [], ◌∷◌, length, set, Option, Some, None}
use Rattle.esr_flow.specs.Types.{Arc, ResidualArc, Forward, Backward}
use Rattle.esr_cert.specs.Network.{arc_at}
use Rattle.esr_cert.specs.Flow.{within, amount_at}
use Rattle.esr_cert.specs.ResidualArcs.{arc_of, start}

-- the rest of a limit
abbrev pub left_of : Option ℕ → ℕ → Option ℕ
left_of None amount = None
left_of (Some limit) amount = Some (limit - amount)

abbrev pub finish : List Arc → ResidualArc → ℕ
finish arcs (Forward i) = (arc_at arcs i).to
finish arcs (Backward i) = (arc_at arcs i).from

-- the residual capacity: the unused capacity of an arc forward, the amount that it carries backward
abbrev pub residual_capacity : List Arc → List ℕ → ResidualArc → Option ℕ
residual_capacity arcs flow (Forward i) = left_of (arc_at arcs i).capacity (amount_at flow i)
residual_capacity arcs flow (Backward i) = Some (amount_at flow i)

abbrev pub IsResidual : List Arc → List ℕ → ResidualArc → Type 0
IsResidual arcs flow step = (arc_of step < length arcs) × (within 1 (residual_capacity arcs flow step) ≡ true)

-- a path in the residual network from a node to a node
abbrev pub IsPath : List Arc → List ℕ → ℕ → List ResidualArc → ℕ → Type 0
IsPath arcs flow a [] b = a ≡ b
IsPath arcs flow a (step ∷ path) b =
    (start arcs step ≡ a) × IsResidual arcs flow step × IsPath arcs flow (finish arcs step) path b

-- labels of the nodes that fall by at most one along each residual step
abbrev pub Falls : List Arc → List ℕ → (ℕ → ℕ) → Type 0
Falls arcs flow d = (s : ResidualArc) → IsResidual arcs flow s → d (start arcs s) ≤ suc (d (finish arcs s))

abbrev pub smaller : Option ℕ → Option ℕ → Option ℕ
smaller None b = b
smaller (Some a) None = Some a
smaller (Some a) (Some b) = Some (min a b)

-- the bottleneck of a path: the least residual capacity on it
abbrev pub bottleneck : List Arc → List ℕ → List ResidualArc → Option ℕ
bottleneck arcs flow [] = None
bottleneck arcs flow (step ∷ path) = smaller (residual_capacity arcs flow step) (bottleneck arcs flow path)

abbrev pub shift : List ℕ → ℕ → ResidualArc → List ℕ
shift flow x (Forward i) = set flow i (amount_at flow i + x)
shift flow x (Backward i) = set flow i (amount_at flow i - x)

-- the flow with x more along a path
abbrev pub raise : List ℕ → ℕ → List ResidualArc → List ℕ
raise flow x [] = flow
raise flow x (step ∷ path) = raise (shift flow x step) x path
