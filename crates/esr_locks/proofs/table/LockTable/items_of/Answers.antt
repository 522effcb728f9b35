use Rattle.std.proofs.Common.{map, arith}
use Rattle.esr_locks.proofs.Tables.{table_listed, table_within}
use Rattle.esr_locks.proofs.table.LockTable.items_of.Goals as goal

pub returns-clause-in_range : goal.returns-clause-in_range
returns-clause-in_range c = grind (arith, map, c.locked_items_of.ensures, table_within)

pub returns-clause-complete : goal.returns-clause-complete
returns-clause-complete c = grind (arith, map, c.locked_items_of.ensures, table_listed)
