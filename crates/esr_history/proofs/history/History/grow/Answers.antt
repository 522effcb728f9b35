use Rattle.std.proofs.Common.{rules}
use Rattle.esr_history.proofs.history.History.grow.Goals as goal

pub returns-clause-ok : goal.returns-clause-ok
returns-clause-ok g c = search rules
