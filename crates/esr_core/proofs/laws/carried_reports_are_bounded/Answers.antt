use Rattle.esr_core.proofs.Carried.{law_of_reports}
use Rattle.esr_core.proofs.laws.carried_reports_are_bounded.Goals as goal

pub returns : goal.returns
returns c = law_of_reports
