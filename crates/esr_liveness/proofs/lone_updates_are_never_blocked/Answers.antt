use Rattle.esr_liveness.proofs.Alone.{law_of_lone_updates}
use Rattle.esr_liveness.proofs.lone_updates_are_never_blocked.Goals as goal

pub returns : goal.returns
returns c = law_of_lone_updates
