use Rattle.esr_flow.specs.ResidualGraph.{network_of}
use Rattle.esr_flow.specs.Reached.{AreReached}
use Rattle.esr_flow.proofs.reach.skim_chain.Given as goal

abbrev pub invariant-loop-j : goal.invariant-loop-j
invariant-loop-j l = AreReached (network_of l.graph) l.flow l.marks
