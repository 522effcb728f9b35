use Rattle.esr_order.proofs.ConflictOrder.{law_of_placements}
use Rattle.esr_order.proofs.laws.parts_are_closed_sets.Goals as goal

pub returns : goal.returns
returns c = law_of_placements
