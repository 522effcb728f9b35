use Rattle.std.proofs.Common.{map}
use Rattle.esr_explore.specs.Queries.{begun_query}
use Rattle.esr_explore.proofs.Begun.{calls_more}
use Rattle.esr_explore.proofs.query.push_queries.Goals as goal

pub loop-index-preserved : goal.loop-index-preserved
loop-index-preserved c =
    calls_more c.args.block c.args.calls.now c.loop-index.index _ (map begun_query c.args.out.now.items) (map begun_query c.loop-index.out.items)
    (map begun_query c.push_begun.new.out.items) c.loop-index-test.true c.loop-index.invariant c.in_ok-push_begun.ensures
