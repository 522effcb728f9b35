use Rattle.std.proofs.Common.{◌≡◌, ◌+◌, take}
use Rattle.esr_base.specs.declared.limits.TheConstants.{MAX_ENTRIES}
use Rattle.esr_session.specs.Receipts.{count_in}
use Rattle.esr_drive.proofs.threads.is_full.Given as goal

abbrev pub invariant-loop-session : goal.invariant-loop-session
invariant-loop-session g l = l.left + count_in (take l.session-index l.sessions) ≡ MAX_ENTRIES
