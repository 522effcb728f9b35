use Rattle.std.proofs.Common.{rules}
use Rattle.esr_core.proofs.state.State.charge_of_read.Goals as goal

pub returns-in-Some : goal.returns-in-Some
returns-in-Some g c = search rules
