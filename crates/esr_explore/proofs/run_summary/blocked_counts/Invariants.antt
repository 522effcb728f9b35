use Rattle.std.proofs.Common.{◌≡◌, map, take}
use Rattle.esr_explore.proofs.run_summary.blocked_counts.Given as goal

abbrev pub invariant-loop-progress : goal.invariant-loop-progress
invariant-loop-progress l = l.counts.items ≡ map (λ r. r.blocked) (take l.progress-index l.all_progress)
