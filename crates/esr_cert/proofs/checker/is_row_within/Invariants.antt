use Rattle.std.proofs.Common.{◌≡◌, drop}
use Rattle.esr_cert.specs.Capacities.{is_row_within}
use Rattle.esr_cert.proofs.checker.is_row_within.Given as goal

abbrev pub invariant-loop-i : goal.invariant-loop-i
invariant-loop-i l = is_row_within (drop l.i l.costs) (drop l.i l.row) ≡ is_row_within l.costs l.row
