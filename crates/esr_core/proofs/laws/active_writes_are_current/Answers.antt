use Rattle.esr_core.proofs.Running.{law_of_current_values}
use Rattle.esr_core.proofs.laws.active_writes_are_current.Goals as goal

pub returns : goal.returns
returns c = law_of_current_values
