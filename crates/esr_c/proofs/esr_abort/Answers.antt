use Rattle.std.proofs.Common.{rules}
use Rattle.esr_c.proofs.esr_abort.Goals as goal

pub returns : goal.returns
returns c = search rules
