use Rattle.esr_order.proofs.Meets.{least_meet}
use Rattle.esr_order.proofs.laws.least_sets_meet.Goals as goal

pub returns : goal.returns
returns c = least_meet
