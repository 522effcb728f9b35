use Rattle.esr_flow.specs.ResidualGraph.{network_of}
use Rattle.esr_flow.proofs.ScanLaws.{Scanning}
use Rattle.esr_flow.proofs.search.scan.Given as goal

abbrev pub invariant-loop-i : goal.invariant-loop-i
invariant-loop-i l = Scanning (network_of l.graph) l.fn._flow l.steps l.row l.visits.items l.marks.items l.head l.level l.i
