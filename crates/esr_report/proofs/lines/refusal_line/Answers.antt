use Rattle.std.proofs.Common.{rules}
use Rattle.esr_report.proofs.lines.refusal_line.Goals as goal

pub returns-in-Some-clause-ok : goal.returns-in-Some-clause-ok
returns-in-Some-clause-ok g c = search rules
