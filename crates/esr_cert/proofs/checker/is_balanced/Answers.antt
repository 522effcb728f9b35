use Rattle.std.proofs.Common.{arith}
use Rattle.std.proofs.lemmas.Grind.{common_steps}
use Rattle.esr_cert.proofs.checker.is_balanced.Goals as goal

pub returns : goal.returns
returns c = grind (arith, common_steps)
