use Rattle.std.proofs.Common.{ℕ, ◌<◌, List, length}
use Rattle.esr_cert.specs.Network.{Network}
use Rattle.esr_flow.specs.Search.{FoundSink}
use Rattle.esr_flow.proofs.PathLaws.{Back}
use Rattle.esr_flow.proofs.search.path_to_last.Given as goal

abbrev pub invariant-loop-at : goal.invariant-loop-at
invariant-loop-at l = record {
  in_visits : l.at < length l.visits;
  opposite_has_residual : (net : Network) (flow : List ℕ) → FoundSink net flow l.visits → Back net flow l.visits l.path.items l.at;
}

abbrev pub decreases-loop-at : goal.decreases-loop-at
decreases-loop-at l = l.at
