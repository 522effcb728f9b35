use Rattle.std.proofs.Common.{rules}
use Rattle.esr_history.proofs.history.History.restart.Goals as goal

pub returns : goal.returns
returns g c = search rules
