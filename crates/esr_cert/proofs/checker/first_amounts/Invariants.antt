use Rattle.std.proofs.Common.{◌≡◌, ◌≤◌, ◌*◌, take, sum_by, get_or}
use Rattle.esr_cert.specs.Views.{rows_of}
use Rattle.esr_cert.proofs.checker.first_amounts.Given as goal

abbrev pub invariant-loop-row : goal.invariant-loop-row
invariant-loop-row l = record {
  value : l.sum ≡ sum_by (λ row. get_or row 0 0) (take l.row-index (rows_of l.rows));
  small : l.sum ≤ l.row-index * 18446744073709551615;
}
