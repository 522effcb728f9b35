use Rattle.std.proofs.Common.{rules}
use Rattle.esr_history.proofs.event.Refusal.row.Goals as goal

pub returns-in-LimitOutOfRange-clause-number : goal.returns-in-LimitOutOfRange-clause-number
returns-in-LimitOutOfRange-clause-number c = search rules

pub returns-in-BlockedByLock-clause-blocker : goal.returns-in-BlockedByLock-clause-blocker
returns-in-BlockedByLock-clause-blocker c = search rules
