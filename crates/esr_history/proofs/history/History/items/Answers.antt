use Rattle.std.proofs.Common.{rules}
use Rattle.esr_history.proofs.history.History.items.Goals as goal

pub returns-clause-items : goal.returns-clause-items
returns-clause-items g c = search rules
