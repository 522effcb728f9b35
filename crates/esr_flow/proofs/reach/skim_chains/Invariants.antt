use Rattle.esr_flow.specs.ResidualGraph.{network_of}
use Rattle.esr_flow.specs.Reached.{AreReached}
use Rattle.esr_flow.proofs.reach.skim_chains.Given as goal

abbrev pub invariant-loop-chain : goal.invariant-loop-chain
invariant-loop-chain l = AreReached (network_of l.graph) l.flow l.marks
