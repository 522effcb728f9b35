use Rattle.esr_cert.specs.Adjacency.{residual_arcs_below}
use Rattle.esr_flow.proofs.FillLaws.{ArePut}
use Rattle.esr_flow.proofs.graph.ResidualGraph.entries.Given as goal

abbrev pub invariant-loop-i : goal.invariant-loop-i
invariant-loop-i l = ArePut l.self l.flow (residual_arcs_below l.i) l.counts.items l.entries.items
