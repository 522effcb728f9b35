use Rattle.esr_core.proofs.Running.{law_of_active_updates}
use Rattle.esr_core.proofs.laws.active_updates_read_on.Goals as goal

pub returns : goal.returns
returns c = law_of_active_updates
