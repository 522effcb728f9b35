use Rattle.esr_bound.proofs.LowerBound.{law_of_end}
use Rattle.esr_bound.proofs.laws.bound_at_end.Goals as goal

pub returns : goal.returns
returns c = law_of_end
