use Rattle.std.proofs.Common.{arith}
use Rattle.std.proofs.lemmas.Grind.{common_steps}
use Rattle.esr_core.proofs.state.charge_each.Goals as goal

pub loop-r-preserved : goal.loop-r-preserved
loop-r-preserved c = record {
  items = grind (arith, common_steps);
  count = grind (arith, common_steps);
  capacity = grind (arith, common_steps);
}
