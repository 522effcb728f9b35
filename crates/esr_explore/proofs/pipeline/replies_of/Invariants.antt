use Rattle.std.proofs.Common.{◌≡◌, map}
use Rattle.esr_explore.proofs.pipeline.replies_of.Given as goal

abbrev pub invariant-loop-progress : goal.invariant-loop-progress
invariant-loop-progress l = map (λ r. r.items) l.replies.items ≡ map (λ r. r.replies) l.yielded
