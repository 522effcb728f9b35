use Rattle.std.proofs.Common.{rules}
use Rattle.esr_history.proofs.event.Entry.is_refused.Goals as goal

pub returns-in_default : goal.returns-in_default
returns-in_default c = search rules
