use Rattle.std.proofs.Common.{◌≡◌, ◌+◌, map, take}
use Rattle.esr_session.specs.Receipts.{count_in}
use Rattle.esr_session.proofs.matcher.count_below.Given as goal

abbrev pub invariant-loop-list : goal.invariant-loop-list
invariant-loop-list g l = l.left + count_in (take l.list-index (map g.L.HasReceipts.receipts l.lists)) ≡ l.total
