-- Marks of nodes that the source reaches in the residual network, not all of them yet, and when they are all.
use Rattle.std.specs.Prelude.{◌≡◌, ℕ, ◌+◌, ◌-◌, ◌<◌, ◌≤◌, Bool, true, List, length, get_or}
use Rattle.esr_cert.specs.declared.problem.Chain.{Chain}
use Rattle.esr_cert.specs.Problem.{Problem}
use Rattle.esr_cert.specs.Network.{Network, arc_at}
use Rattle.esr_cert.specs.ChainStarts.{chain_starts_from}
use Rattle.esr_cert.specs.ResidualArcs.{arc_of, start}
use Rattle.esr_flow.specs.Types.{Arc, ResidualArc}
use Rattle.esr_flow.specs.Residual.{finish, IsResidual, IsPath}
use Rattle.esr_flow.specs.Search.{is_marked}

-- the source is marked, and a path leads from it to each node that is
pub record AreReached (net : Network) (flow : List ℕ) (marks : List Bool) : Type 0 where
  pub count : length marks ≡ net.node_count
  pub source : is_marked marks net.source ≡ true
  pub reached : (v : ℕ) → is_marked marks v ≡ true → (path : List ResidualArc) × IsPath net.arcs flow net.source path v

-- the residual steps over an arc lead from a marked node to a marked one
abbrev pub IsKeptOver : List Arc → List ℕ → List Bool → ℕ → Type 0
IsKeptOver arcs flow marks i =
    (step : ResidualArc) → arc_of step ≡ i → IsResidual arcs flow step → is_marked marks (start arcs step) ≡ true
    → is_marked marks (finish arcs step) ≡ true

-- so do all residual steps
abbrev pub IsKept : List Arc → List ℕ → List Bool → Type 0
IsKept arcs flow marks = (i : ℕ) → i < length arcs → IsKeptOver arcs flow marks i

-- the arcs of a chain begin at a number, and those between its writers lead from each to the next
pub record HasChainArcs (arcs : List Arc) (chain : Chain) (begin : ℕ) : Type 0 where
  pub inside : begin + length chain.costs.items ≤ length arcs
  pub from : (j : ℕ) → 0 < j → j < length chain.writers.items
      → (arc_at arcs (begin + j)).from ≡ get_or chain.writers.items (j - 1) 0
  pub to : (j : ℕ) → 0 < j → j < length chain.writers.items
      → (arc_at arcs (begin + j)).to ≡ get_or chain.writers.items j 0

-- the number of the first arc that is not one of a chain
abbrev pub first_back : Problem → ℕ
first_back p = get_or (chain_starts_from 0 p.chains) (length p.chains) 0
