use Rattle.std.proofs.Common.{arith}
use Rattle.esr_core.proofs.Locks.{locks_at_item}
use Rattle.esr_core.proofs.machine.Machine.writer.Goals as goal

pub returns : goal.returns
returns g c = grind (arith, locks_at_item)
