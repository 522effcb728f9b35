use Rattle.std.proofs.Common.{arith}
use Rattle.esr_explain.proofs.Amongst.{filter_fails, filter_passes}
use Rattle.esr_explain.proofs.updates_outside.without.Goals as goal
use Rattle.esr_explain.proofs.updates_outside.without.Goals.{then-not-is_among+in_ok-push, else-not-is_among}

pub loop-t-preserved : goal.loop-t-preserved
loop-t-preserved c = grind (arith, then-not-is_among+in_ok-push, filter_passes, else-not-is_among, filter_fails)
