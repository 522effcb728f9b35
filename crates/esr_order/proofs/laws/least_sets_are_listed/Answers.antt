use Rattle.esr_order.proofs.Least.{law_of_listed_sets}
use Rattle.esr_order.proofs.laws.least_sets_are_listed.Goals as goal

pub returns : goal.returns
returns c = law_of_listed_sets
