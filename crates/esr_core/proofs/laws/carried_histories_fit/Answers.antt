use Rattle.esr_core.proofs.Fits.{law_of_carried_length}
use Rattle.esr_core.proofs.laws.carried_histories_fit.Goals as goal

pub returns : goal.returns
returns c = law_of_carried_length
