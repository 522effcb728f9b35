use Rattle.std.proofs.Common.{rules}
use Rattle.esr_script.proofs.script.Script.add_item.Goals as goal

pub returns-clause-ok : goal.returns-clause-ok
returns-clause-ok c = search rules
