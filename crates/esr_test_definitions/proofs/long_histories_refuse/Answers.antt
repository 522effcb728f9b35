use Rattle.std.proofs.Common.{refl}
use Rattle.esr_test_definitions.proofs.long_histories_refuse.Goals as goal

pub returns : goal.returns
returns c = (refl, refl)
