use Rattle.std.proofs.Common.{◌≡◌, ◌+◌, ◌-◌, ◌*◌, length}
use Rattle.esr_drive.specs.Runs.{IsUnderWay}
use Rattle.esr_drive.proofs.run.call_all.Given as goal

abbrev pub invariant-loop-progress : goal.invariant-loop-progress
invariant-loop-progress g l =
    (l.progress.calls.now ≡ l.calls) × IsUnderWay l.progress.calls.now l.progress.replies.items l.progress.blocked l.session

-- the calls that may still be made
abbrev pub decreases-loop-progress : goal.decreases-loop-progress
decreases-loop-progress g l = 100 * length l.calls + 1 - length l.session
