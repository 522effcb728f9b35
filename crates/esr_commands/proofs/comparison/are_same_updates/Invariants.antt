use Rattle.std.proofs.Common.{◌≡◌, take, map}
use Rattle.esr_commands.proofs.comparison.are_same_updates.Given as goal

abbrev pub invariant-loop-i : goal.invariant-loop-i
invariant-loop-i l = map (λ t. t.0) (take l.i l.a) ≡ map (λ t. t.0) (take l.i l.b)
