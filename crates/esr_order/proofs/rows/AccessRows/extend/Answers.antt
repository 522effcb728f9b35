use Rattle.std.proofs.Common.{◌∙◌, sym, subst}
use Rattle.esr_order.specs.AccessRows.{AreRowsOf}
use Rattle.esr_order.proofs.Rowed.{rows_more}
use Rattle.esr_order.proofs.rows.AccessRows.extend.Goals as goal
use Rattle.esr_order.proofs.rows.AccessRows.extend.Goals.{then-is_update+in_ok-list_accesses+in_ok-put, else-is_update}

pub returns-in_err-put : goal.returns-in_err-put
returns-in_err-put g c =
    rows_more c.args.history.now.schedule.entries c.loop-t.self c.put.new.self _ c.deref.result.now c.loop-t.invariant
    (c.requires.committed _ _ c.loop-t-test.true) (c.deref.ensures.value ∙ c.in_ok-list_accesses.ensures) c.put.ensures.others

pub loop-t-preserved : goal.loop-t-preserved
loop-t-preserved g c =
    elim c.if-is_update.branch [
      | then-is_update+in_ok-list_accesses+in_ok-put w ↦ subst (AreRowsOf c.args.history.now.schedule.entries) (sym w.self-is)
          (rows_more c.args.history.now.schedule.entries c.loop-t.self w.put.new.self _ w.deref.result.now c.loop-t.invariant
          (c.requires.committed _ _ c.loop-t-test.true) (w.deref.ensures.value ∙ w.in_ok-list_accesses.ensures) w.put.ensures.others)
      | else-is_update w ↦ subst (AreRowsOf c.args.history.now.schedule.entries) (sym w.self-is) c.loop-t.invariant
    ]
