use Rattle.std.proofs.Common.{◌≡◌, take}
use Rattle.esr_commands.proofs.comparison.are_same_pairs.Given as goal

abbrev pub invariant-loop-i : goal.invariant-loop-i
invariant-loop-i l = take l.i l.a ≡ take l.i l.b
