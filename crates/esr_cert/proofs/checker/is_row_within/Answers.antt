use Rattle.std.proofs.Common.{sym}
use Rattle.esr_cert.proofs.Steps.{row_within_apart}
use Rattle.esr_cert.proofs.checker.is_row_within.Goals as goal

pub returns-then-costs-row : goal.returns-then-costs-row
returns-then-costs-row c = sym (row_within_apart c.args.costs.now c.args.row.now c.if-costs-row.true)
