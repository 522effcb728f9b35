use Rattle.std.proofs.Common.{◌≡◌, ◌-◌, drop}
use Rattle.esr_cert.specs.Problem.{are_linked}
use Rattle.esr_cert.proofs.shape.are_linked.Given as goal

abbrev pub invariant-loop-i : goal.invariant-loop-i
invariant-loop-i l = are_linked l.before (drop (l.i - 1) l.writers) ≡ are_linked l.before l.writers
