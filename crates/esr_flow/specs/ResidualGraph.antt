-- A network with the steps that start at each node, in consecutive rows, and for each step an entry that shows whether
-- it has residual capacity.
use Rattle.std.specs.Prelude.{◌≡◌, ℕ, ◌<◌, false, List, length, get_or, map, Contains}
use Rattle.esr_flow.specs.Types.{Arc, ResidualArc}
use Rattle.esr_cert.specs.Network.{Network, network}
use Rattle.esr_flow.specs.ShortEntry.{AdjacencyEntry}
pub use Rattle.esr_flow.specs.declared.graph.ResidualGraph.{ResidualGraph}
use Rattle.esr_cert.specs.Flow.{within}
use Rattle.esr_cert.specs.ResidualArcs.{arc_of, start, opposite, step_at}
use Rattle.esr_flow.specs.Graphs.{net_with}
use Rattle.esr_flow.specs.Residual.{finish, residual_capacity}

abbrev pub network_arcs : ResidualGraph → List Arc
network_arcs g = (network g.problem.now).arcs

abbrev pub network_of : ResidualGraph → Network
network_of g = net_with g.problem.now g.node_count g.source g.sink

-- the entry of a step: where it leads, and whether the step and its opposite have residual capacity
abbrev pub adjacency_entry : List Arc → List ℕ → ResidualArc → AdjacencyEntry
adjacency_entry arcs flow step = record {
  to = finish arcs step;
  has_residual = within 1 (residual_capacity arcs flow step);
  opposite_has_residual = within 1 (residual_capacity arcs flow (opposite step));
}

abbrev pub entry_at : List AdjacencyEntry → ℕ → AdjacencyEntry
entry_at entries k = get_or entries k (record { to = 0; has_residual = false; opposite_has_residual = false })

-- the entries of a graph's steps, with the residual capacities of a flow
abbrev pub AreEntries : ResidualGraph → List ℕ → List AdjacencyEntry → Type 0
AreEntries g flow entries = entries ≡ map (adjacency_entry (network_arcs g) flow) g.adjacency.now.steps.items

-- a step that starts at a node, and its entry: the end of the step, and whether it and its opposite have residual
-- capacity
pub record IsEntry (arcs : List Arc) (flow : List ℕ) (v : ℕ) (step : ResidualArc) (e : AdjacencyEntry) : Type 0 where
  pub arc_in_range : arc_of step < length arcs
  pub starts : start arcs step ≡ v
  pub leads : e.to ≡ finish arcs step
  pub has_residual : e.has_residual ≡ within 1 (residual_capacity arcs flow step)
  pub opposite_has_residual : e.opposite_has_residual ≡ within 1 (residual_capacity arcs flow (opposite step))

-- the steps that start at a node, and no others, and a row of their entries
pub record IsAdjacencyRow (arcs : List Arc) (flow : List ℕ) (v : ℕ) (steps : List ResidualArc) (row : List AdjacencyEntry)
    : Type 0 where
  pub count : length row ≡ length steps
  pub entries : (k : ℕ) → k < length row → IsEntry arcs flow v (step_at steps k) (entry_at row k)
  pub all : (step : ResidualArc) → arc_of step < length arcs → start arcs step ≡ v → Contains steps step
