use Rattle.esr_bound.proofs.LowerBound.{law_of_start}
use Rattle.esr_bound.proofs.laws.bound_at_start.Goals as goal

pub returns : goal.returns
returns c = law_of_start
