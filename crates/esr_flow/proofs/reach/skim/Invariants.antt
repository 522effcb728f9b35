use Rattle.esr_flow.specs.ResidualGraph.{network_of}
use Rattle.esr_flow.specs.Reached.{AreReached}
use Rattle.esr_flow.proofs.reach.skim.Given as goal

abbrev pub invariant-loop-i : goal.invariant-loop-i
invariant-loop-i l = AreReached (network_of l.graph) l.flow l.marks

abbrev pub invariant-loop : goal.invariant-loop
invariant-loop l = AreReached (network_of l.graph) l.flow l.marks
