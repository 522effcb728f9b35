use Rattle.esr_cert.specs.Adjacency.{IsAdjacencyUpTo}
use Rattle.esr_cert.proofs.adjacency.lay_others.Given as goal

abbrev pub invariant-loop-i : goal.invariant-loop-i
invariant-loop-i l = IsAdjacencyUpTo l.arcs l.fn._nodes l.i l.adjacency.spans.items l.adjacency.steps.items
