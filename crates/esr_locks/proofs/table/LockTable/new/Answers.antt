use Rattle.esr_locks.proofs.Tables.{IsLockTable-empty}
use Rattle.esr_locks.proofs.table.LockTable.new.Goals as goal

pub invariant_of-result : goal.invariant_of-result
invariant_of-result c = rw c.new.ensures.items (IsLockTable-empty c.in-Ok.entries.items c.args.items c.in-Ok.ensures)
