use Rattle.esr_explore.proofs.Turning.{one_new_runner}
use Rattle.esr_explore.proofs.run.new_progress.Goals as goal

pub loop-block-preserved : goal.loop-block-preserved
loop-block-preserved c =
    one_new_runner c.loop-block._block c.loop-block.all_progress.items c.push.new.self.items c.new.result c.loop-block.invariant c.new.ensures c.in_ok-push.ensures.items
