use Rattle.std.proofs.Common.{arith}
use Rattle.std.proofs.lemmas.Grind.{common_steps}
use Rattle.esr_drive.proofs.threads.gather.Goals as goal

pub loop-ran-preserved : goal.loop-ran-preserved
loop-ran-preserved g c = grind (arith, common_steps)
