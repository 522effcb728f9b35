use Rattle.esr_renewal.proofs.Carry.{law_of_open_exports}
use Rattle.esr_renewal.proofs.open_exports_are_charged.Goals as goal

pub returns : goal.returns
returns c = law_of_open_exports
