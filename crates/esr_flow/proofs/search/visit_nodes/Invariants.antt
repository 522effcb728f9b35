use Rattle.std.proofs.Common.{◌≡◌, ◌≤◌, ◌-◌, length, false}
use Rattle.esr_flow.specs.ResidualGraph.{network_of}
use Rattle.esr_flow.specs.Search.{Searched, is_marked}
use Rattle.esr_flow.proofs.search.visit_nodes.Given as goal

abbrev pub invariant-loop-head : goal.invariant-loop-head
invariant-loop-head l =
    Searched (network_of l.graph) l.flow l.visits.items l.marks.items l.head × (is_marked l.marks.items l.graph.sink ≡ false) × (l.head ≤ length l.visits.items)

abbrev pub decreases-loop-head : goal.decreases-loop-head
decreases-loop-head l = l.graph.node_count - l.head
