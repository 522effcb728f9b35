use Rattle.std.proofs.Common.{◌<◌, length, rules}
use Rattle.esr_locks.proofs.Tables.{capacity_of_list}
use Rattle.esr_locks.proofs.table.LockTable.reserve_list.Goals as goal

pub returns-clause-ok : goal.returns-clause-ok
returns-clause-ok c =
    let in_lists : c.args.t.0 < length c.ensure_list.new.by_transaction.items = search rules in
    let list : 0 < c.reserve.new.self.spare_capacity = search rules in
    rw (capacity_of_list c.ensure_list.new.by_transaction.items c.args.t.0 c.reserve.new.self in_lists) list
