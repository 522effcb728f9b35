use Rattle.std.proofs.Common.{rules}
use Rattle.esr_report.proofs.lines.end_line.Goals as goal

pub returns-clause-err : goal.returns-clause-err
returns-clause-err c = search rules
