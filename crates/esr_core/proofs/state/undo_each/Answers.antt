use Rattle.std.proofs.Common.{rules}
use Rattle.esr_core.proofs.state.undo_each.Goals as goal

pub loop-x-preserved : goal.loop-x-preserved
loop-x-preserved c = search rules
