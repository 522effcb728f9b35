use Rattle.esr_cert.specs.Adjacency.{residual_arcs_below, Counted}
use Rattle.esr_cert.proofs.adjacency.count_others.Given as goal

abbrev pub invariant-loop-i : goal.invariant-loop-i
invariant-loop-i l = Counted l.arcs l.fn._nodes (residual_arcs_below l.i) l.degrees.items
