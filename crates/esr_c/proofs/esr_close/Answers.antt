use Rattle.std.proofs.Common.{rules}
use Rattle.esr_c.proofs.esr_close.Goals as goal

pub returns-in-Some-clause-closed : goal.returns-in-Some-clause-closed
returns-in-Some-clause-closed c = search rules
