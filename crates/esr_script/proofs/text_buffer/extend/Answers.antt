use Rattle.std.proofs.Common.{arith, is_ok}
use Rattle.esr_script.proofs.Places.{extended}
use Rattle.esr_script.proofs.text_buffer.extend.Goals as goal

pub returns-clause-bytes : goal.returns-clause-bytes
returns-clause-bytes c = extended (is_ok c.resize.result) _ _ _ _ (omega arith) c.resize.ensures.items
