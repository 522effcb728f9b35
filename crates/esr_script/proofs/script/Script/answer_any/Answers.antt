use Rattle.std.proofs.Common.{rules}
use Rattle.esr_script.proofs.script.Script.answer_any.Goals as goal

pub returns : goal.returns
returns c = record { state = search rules; text = search rules }
