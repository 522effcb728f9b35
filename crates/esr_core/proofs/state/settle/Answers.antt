use Rattle.std.proofs.Common.{rules}
use Rattle.esr_core.proofs.state.settle.Goals as goal

pub returns-in-Abort : goal.returns-in-Abort
returns-in-Abort c = search rules
