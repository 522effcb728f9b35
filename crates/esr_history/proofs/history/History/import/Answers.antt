use Rattle.std.proofs.Common.{arith}
use Rattle.esr_history.proofs.Importing.{import_at}
use Rattle.esr_history.proofs.history.History.import.Goals as goal

pub returns : goal.returns
returns g c = grind (arith, import_at)
