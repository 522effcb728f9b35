use Rattle.esr_explore.specs.Report.{query_line}
use Rattle.esr_explore.proofs.Texts.{query_more}
use Rattle.esr_explore.proofs.report.push_queries.Goals as goal

pub loop-index-preserved : goal.loop-index-preserved
loop-index-preserved c =
    query_more (query_line c.args.summaries.now) c.args.out.now.items c.loop-index.out.items c.push_query.new.out.items c.args.queries.now c.loop-index.index _
    c.loop-index-test.true c.loop-index.invariant c.in_ok-push_query.ensures
