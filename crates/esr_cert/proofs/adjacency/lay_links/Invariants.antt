use Rattle.std.proofs.Common.{◌+◌}
use Rattle.esr_cert.specs.Adjacency.{IsAdjacencyUpTo}
use Rattle.esr_cert.proofs.adjacency.lay_links.Given as goal

abbrev pub invariant-loop-j : goal.invariant-loop-j
invariant-loop-j l = IsAdjacencyUpTo l.fn._arcs l.fn._nodes (l.begin + l.j) l.adjacency.spans.items l.adjacency.steps.items
