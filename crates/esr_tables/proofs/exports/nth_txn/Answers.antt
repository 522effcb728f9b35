use Rattle.std.proofs.Common.{◌≤◌, arith}
use Rattle.esr_items.specs.Weights.{weighted}
use Rattle.esr_history.specs.BackLinks.{begun_count}
use Rattle.esr_history.proofs.WithinRanges.{legal_begins}
use Rattle.esr_tables.proofs.exports.nth_txn.Goals as goal

pub overflow_cast-result : goal.overflow_cast-result
overflow_cast-result c =
    let upper_bound : begun_count c.args.history.now.schedule.entries ≤ 65535 = legal_begins weighted c.args.history.now.schedule c.log-invariant.ensures.legal in omega (arith, upper_bound)

pub overflow_add-result : goal.overflow_add-result
overflow_add-result c =
    let upper_bound : begun_count c.args.history.now.schedule.entries ≤ 65535 = legal_begins weighted c.args.history.now.schedule c.log-invariant.ensures.legal in omega (arith, upper_bound)
