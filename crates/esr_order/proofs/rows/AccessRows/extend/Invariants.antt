use Rattle.esr_order.specs.AccessRows.{AreRowsOf}
use Rattle.esr_order.proofs.rows.AccessRows.extend.Given as goal

abbrev pub invariant-loop-t : goal.invariant-loop-t
invariant-loop-t g l = AreRowsOf l.history.schedule.entries l.self
