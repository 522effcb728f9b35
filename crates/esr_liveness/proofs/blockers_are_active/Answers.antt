use Rattle.esr_liveness.proofs.Blockers.{law_of_blockers}
use Rattle.esr_liveness.proofs.blockers_are_active.Goals as goal

pub returns : goal.returns
returns c = law_of_blockers
