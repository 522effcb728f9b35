use Rattle.esr_bound.proofs.SmallestSet.{law_of_set}
use Rattle.esr_bound.proofs.laws.marked_set_is_smallest.Goals as goal

pub returns : goal.returns
returns c = law_of_set
