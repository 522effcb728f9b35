use Rattle.std.proofs.Common.{◌≡◌, ◌+◌, ◌*◌, length}
use Rattle.esr_flow.specs.ResidualGraph.{network_of}
use Rattle.esr_flow.proofs.WalkLaws.{Walk, untried}
use Rattle.esr_flow.proofs.paths.next_path.Given as goal

abbrev pub invariant-loop-at : goal.invariant-loop-at
invariant-loop-at l = Walk (network_of l.graph) l.flow l.labels l.path.items l.at × (length l.next ≡ l.graph.node_count)

abbrev pub decreases-loop-at : goal.decreases-loop-at
decreases-loop-at l = 2 * untried l.graph.adjacency.now.spans.items l.next + length l.path.items
