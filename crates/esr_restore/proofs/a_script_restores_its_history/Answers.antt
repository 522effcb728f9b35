use Rattle.esr_restore.proofs.Restored.{law_of_restoring}
use Rattle.esr_restore.proofs.a_script_restores_its_history.Goals as goal

pub returns : goal.returns
returns c = law_of_restoring
