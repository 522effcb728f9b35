use Rattle.std.proofs.Common.{map}
use Rattle.esr_explore.specs.Queries.{begun_query}
use Rattle.esr_explore.proofs.Begun.{held_blocks_more}
use Rattle.esr_explore.proofs.query.queries_of.Goals as goal

pub loop-block-preserved : goal.loop-block-preserved
loop-block-preserved c =
    held_blocks_more c.args.blocks.now c.loop-block.block c.index-blocks-block.result c.as_slice.result.now (map begun_query c.loop-block.queries.items)
    (map begun_query c.push_queries.new.out.items) c.loop-block-test.true c.index-blocks-block.is c.as_slice.ensures.value c.loop-block.invariant
    c.in_ok-push_queries.ensures
