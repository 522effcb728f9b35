use Rattle.std.proofs.Common.{ap, length, arith}
use Rattle.esr_session.proofs.MappedLists.{count_in-next}
use Rattle.esr_session.proofs.matcher.count_below.Goals as goal

pub returns-then-len-left : goal.returns-then-len-left
returns-then-len-left g c =
    let list = c.list-item.result in
    let more = count_in-next g.L.HasReceipts.receipts c.args.lists.now c.loop-list.list-index list c.loop-list-test.true c.list-item.is in
    omega (arith, more.1, c.loop-list.invariant, c.if-len-left.true, ap length c.receipts-len.ensures)

pub loop-list-preserved : goal.loop-list-preserved
loop-list-preserved g c = grind (arith, count_in-next)
