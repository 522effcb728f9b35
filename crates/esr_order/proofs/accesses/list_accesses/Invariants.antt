use Rattle.esr_history.specs.BackLinks.{coded}
use Rattle.esr_order.proofs.Accessed.{IsBackTo}
use Rattle.esr_order.proofs.accesses.list_accesses.Given as goal

-- the results of the entries after the next
abbrev pub invariant-loop-next : goal.invariant-loop-next
invariant-loop-next g l = IsBackTo l.history.schedule.entries l.fn.t.0 l.accesses.items l.next

abbrev pub decreases-loop-next : goal.decreases-loop-next
decreases-loop-next g l = coded l.next
