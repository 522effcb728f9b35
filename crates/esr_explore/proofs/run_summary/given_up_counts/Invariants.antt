use Rattle.std.proofs.Common.{◌≡◌, map, take}
use Rattle.esr_explore.specs.Summaries.{given_up_in}
use Rattle.esr_explore.proofs.run_summary.given_up_counts.Given as goal

abbrev pub invariant-loop-progress : goal.invariant-loop-progress
invariant-loop-progress l = l.counts.items ≡ map given_up_in (take l.progress-index l.all_progress)
