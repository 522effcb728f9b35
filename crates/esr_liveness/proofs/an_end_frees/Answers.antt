use Rattle.esr_liveness.proofs.Ends.{law_of_ends}
use Rattle.esr_liveness.proofs.an_end_frees.Goals as goal

pub returns : goal.returns
returns c = law_of_ends
