use Rattle.esr_bound.proofs.LowerBound.{law_of_updates}
use Rattle.esr_bound.proofs.laws.bound_after_update.Goals as goal

pub returns : goal.returns
returns c = law_of_updates
