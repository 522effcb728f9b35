use Rattle.std.proofs.Common.{rules}
use Rattle.esr_script.proofs.answers.next_length.Goals as goal

pub returns-in-Line-clause-long : goal.returns-in-Line-clause-long
returns-in-Line-clause-long c = search rules
