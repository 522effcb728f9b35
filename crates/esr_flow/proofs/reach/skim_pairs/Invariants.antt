use Rattle.esr_flow.specs.ResidualGraph.{network_of}
use Rattle.esr_flow.specs.Reached.{AreReached}
use Rattle.esr_flow.proofs.reach.skim_pairs.Given as goal

abbrev pub invariant-loop-k : goal.invariant-loop-k
invariant-loop-k l = AreReached (network_of l.graph) l.flow l.marks
