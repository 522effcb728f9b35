use Rattle.std.proofs.Common.{◌≡◌, max, drop}
use Rattle.esr_cert.specs.Problem.{greatest}
use Rattle.esr_cert.proofs.range.greatest.Given as goal

abbrev pub invariant-loop-i : goal.invariant-loop-i
invariant-loop-i l = max l.upper_bound (greatest (drop l.i l.costs)) ≡ greatest l.costs
