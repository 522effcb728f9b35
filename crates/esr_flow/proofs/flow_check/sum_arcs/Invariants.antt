use Rattle.std.proofs.Common.{◌≡◌, ℕ, ◌<◌, ◌≤◌, true, eqb, get_or, take}
use Rattle.esr_cert.specs.Network.{arc_at}
use Rattle.esr_cert.specs.Flow.{within, carried}
use Rattle.esr_flow.specs.ResidualGraph.{network_arcs}
use Rattle.esr_flow.proofs.flow_check.sum_arcs.Given as goal

abbrev pub invariant-loop-i : goal.invariant-loop-i
invariant-loop-i l = record {
  capacities : (k : ℕ) → k < l.i → within (get_or l.flow k 0) (arc_at (network_arcs l.graph) k).capacity ≡ true;
  upper_bound : (k : ℕ) → k < l.i → get_or l.flow k 0 ≤ l.greatest;
  to : (v : ℕ) → v < l.graph.node_count → get_or l.inflows v 0 ≡ carried (λ a. eqb a.to v) (take l.i (network_arcs l.graph)) (take l.i l.flow);
  out : (v : ℕ) → v < l.graph.node_count → get_or l.outflows v 0 ≡ carried (λ a. eqb a.from v) (take l.i (network_arcs l.graph)) (take l.i l.flow);
}
