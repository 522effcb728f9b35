use Rattle.esr_explore.specs.Report.{block_line}
use Rattle.esr_explore.proofs.Texts.{number_more}
use Rattle.esr_explore.proofs.report.push_blocks.Goals as goal

pub loop-block-preserved : goal.loop-block-preserved
loop-block-preserved c =
    number_more (block_line c.args.summaries.now) c.args.out.now.items c.loop-block.out.items c.push_block.new.out.items c.loop-block.block c.loop-block.invariant
    c.in_ok-push_block.ensures
