use Rattle.std.proofs.Common.{rules}
use Rattle.esr_locks.proofs.lists.grow.Goals as goal

pub returns : goal.returns
returns g c = search rules
