use Rattle.std.proofs.Common.{rules}
use Rattle.esr_report.proofs.lines.reply_line.Goals as goal

pub returns-in-Value-clause-ok : goal.returns-in-Value-clause-ok
returns-in-Value-clause-ok g c = search rules
