use Rattle.esr_renewal.proofs.Carry.{law_of_carried_order}
use Rattle.esr_renewal.proofs.carried_histories_are_serializable.Goals as goal

pub returns : goal.returns
returns c = law_of_carried_order
