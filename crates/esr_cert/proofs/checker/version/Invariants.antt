use Rattle.std.proofs.Common.{◌≡◌, ◌-◌, length, take}
use Rattle.esr_cert.specs.Problem.{in_set, version}
use Rattle.esr_cert.proofs.checker.version.Given as goal

abbrev pub invariant-loop-i : goal.invariant-loop-i
invariant-loop-i l = version (in_set l.set) (take (length l.writers - l.i) l.writers) ≡ version (in_set l.set) l.writers
