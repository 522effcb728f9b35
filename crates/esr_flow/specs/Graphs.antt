-- A network with the steps that start at each node, in consecutive rows.
use Rattle.std.specs.Prelude.{◌≡◌, ℕ, ◌<◌, ◌≤◌, length, ◌^◌}
use Rattle.std.specs.List.Sorted.{IsNonDecreasingBy}
use Rattle.esr_cert.specs.Problem.{Problem}
use Rattle.esr_cert.specs.declared.adjacency.Adjacency.{Adjacency}
use Rattle.esr_cert.specs.Network.{Network, IsNetwork, network}
use Rattle.esr_cert.specs.ResidualArcs.{rank_of, HasSteps}
use Rattle.esr_cert.specs.Adjacency.{span_at, row_in, row_of, AreSteps}

-- the arcs of a problem, with this number of nodes
abbrev pub net_with : Problem → ℕ → ℕ → ℕ → Network
net_with p node_count source sink = record { node_count = node_count; arcs = (network p).arcs; source = source; sink = sink }

pub record IsGraphOf (p : Problem) (adjacency : Adjacency) (node_count source sink : ℕ) : Type 0 where
  pub is_network : IsNetwork (net_with p node_count source sink)
  pub count : length adjacency.spans.items ≡ node_count
  pub ordered : (v : ℕ) → v < node_count
      → (span_at adjacency.spans.items v).begin ≤ (span_at adjacency.spans.items v).end
  pub inside : (v : ℕ) → v < node_count → (span_at adjacency.spans.items v).end ≤ length adjacency.steps.items
  pub row : (v : ℕ) → v < node_count
      → row_in adjacency.steps.items (span_at adjacency.spans.items v) ≡ row_of (network p).arcs v
  pub lists : (v : ℕ) → v < node_count
      → HasSteps (network p).arcs v (row_in adjacency.steps.items (span_at adjacency.spans.items v))
  pub ascend : (v : ℕ) → v < node_count
      → IsNonDecreasingBy rank_of (row_in adjacency.steps.items (span_at adjacency.spans.items v))
  pub steps : AreSteps (network p).arcs adjacency.steps.items
  pub sink_is_node : sink < node_count
  pub count_within_max : node_count < 2 ^ 30
