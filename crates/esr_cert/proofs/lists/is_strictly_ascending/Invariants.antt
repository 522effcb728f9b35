use Rattle.std.proofs.Common.{◌≡◌, ◌-◌, drop}
use Rattle.esr_cert.specs.Problem.{is_strictly_ascending}
use Rattle.esr_cert.proofs.lists.is_strictly_ascending.Given as goal

abbrev pub invariant-loop-i : goal.invariant-loop-i
invariant-loop-i l = is_strictly_ascending (drop (l.i - 1) l.numbers) ≡ is_strictly_ascending l.numbers
