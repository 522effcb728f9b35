use Rattle.std.proofs.Common.{◌+◌}
use Rattle.esr_cert.specs.Adjacency.{residual_arcs_below, Counted}
use Rattle.esr_cert.proofs.adjacency.count_links.Given as goal

abbrev pub invariant-loop-j : goal.invariant-loop-j
invariant-loop-j l = Counted l.fn._arcs l.fn._nodes (residual_arcs_below (l.fn._begin + l.j)) l.degrees.items
