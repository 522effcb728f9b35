use Rattle.std.proofs.Common.{◌≡◌, drop, map}
use Rattle.esr_cert.specs.Capacities.{are_rows_within}
use Rattle.esr_cert.specs.Views.{chain_view, rows_of}
use Rattle.esr_cert.proofs.checker.are_rows_within.Given as goal

abbrev pub invariant-loop-i : goal.invariant-loop-i
invariant-loop-i l = are_rows_within (drop l.i (map chain_view l.chains)) (drop l.i (rows_of l.rows)) ≡ are_rows_within (map chain_view l.chains) (rows_of l.rows)
