use Rattle.esr_renewal.proofs.Carry.{law_of_carry}
use Rattle.esr_renewal.proofs.every_renewal_carries.Goals as goal

pub returns : goal.returns
returns c = law_of_carry
