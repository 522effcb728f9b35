-- The conditions of a solver on a network: its flows are small, and each path to the sink is limited.
use Rattle.std.specs.Prelude.{◌≡◌, ℕ, ◌<◌, ◌≤◌, List, length, get_or, None}
use Rattle.esr_flow.specs.Types.{Arc, ResidualArc}
use Rattle.esr_cert.specs.Network.{Network}
use Rattle.esr_cert.specs.Flow.{amount_at, IsFlow, worth}
use Rattle.esr_cert.specs.ResidualArcs.{arc_of}
use Rattle.esr_flow.specs.Residual.{bottleneck, IsPath}

abbrev pub InArcs : List Arc → List ResidualArc → Type 0
InArcs arcs path = (k : ℕ) (d : ResidualArc) → k < length path → arc_of (get_or path k d) < length arcs

-- a path to the sink has a limited arc
abbrev pub HasLimit : Network → Type 0
HasLimit net =
    (flow : List ℕ) (path : List ResidualArc) → IsPath net.arcs flow net.source path net.sink
    → bottleneck net.arcs flow path ≡ None → ⊥

-- a flow from which augmentations may start: none of its amounts is above its worth
pub record IsStart (net : Network) (flow : List ℕ) : Type 0 where
  pub is_flow : IsFlow net flow
  pub amounts : (i : ℕ) → amount_at flow i ≤ worth net flow
