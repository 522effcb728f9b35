use Rattle.std.proofs.Common.{[]}
use Rattle.esr_explore.specs.declared.query.Query.{Query}
use Rattle.esr_explore.proofs.Telling.{inconsistencies_more}
use Rattle.esr_explore.proofs.run_summary.all_inconsistencies.Goals as goal

pub loop-query-preserved : goal.loop-query-preserved
loop-query-preserved c =
    let none : Query = record { name = record { ref_ptr = (0, 0); now = [] }; block = 0; index = 0 } in
    inconsistencies_more c.args.run.now.history.schedule c.args.run.now.all_progress.items c.deref.result.now c.args.queries.now c.loop-query.query-index none
    c.txn_id_of-txn_id.result.0 c.loop-query.inconsistencies.items c.push.new.self.items c.in_ok-inconsistency_of.field-0 c.loop-query-test.true c.loop-query.invariant
    c.deref.ensures.value c.txn_id_of-txn_id.ensures c.in_ok-inconsistency_of.ensures c.in_ok-push.ensures.items
