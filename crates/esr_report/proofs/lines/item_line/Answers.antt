use Rattle.std.proofs.Common.{rules}
use Rattle.esr_report.proofs.lines.item_line.Goals as goal

pub returns-clause-ok : goal.returns-clause-ok
returns-clause-ok c = search rules
