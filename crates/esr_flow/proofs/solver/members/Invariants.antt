use Rattle.std.proofs.Common.{◌≡◌}
use Rattle.esr_flow.specs.Search.{is_marked}
use Rattle.esr_flow.specs.Members.{members_below}
use Rattle.esr_flow.proofs.solver.members.Given as goal

abbrev pub invariant-loop-v : goal.invariant-loop-v
invariant-loop-v l = l.set.items ≡ members_below (is_marked l.marks) l.v
