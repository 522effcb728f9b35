use Rattle.std.proofs.Common.{◌≡◌, ◌++◌, drop, reverse}
use Rattle.esr_order.specs.Conflicts.{pairs_from}
use Rattle.esr_order.proofs.conflicts.push_conflicts.Given as goal

-- the pairs of those so far are added
abbrev pub invariant-loop-k : goal.invariant-loop-k
invariant-loop-k l = l.pairs.items ≡ l.fn.pairs.items ++ reverse (pairs_from l.i (drop l.k l.others))
