use Rattle.std.proofs.Common.{arith}
use Rattle.esr_history.proofs.Charges.{legal_within_limits}
use Rattle.esr_history.proofs.Sums.{imports_are_exports}
use Rattle.esr_core.proofs.Opening.{imports_of, exports_of}
use Rattle.esr_core.proofs.machine.Machine.totals.Goals as goal

pub returns : goal.returns
returns g c = grind (arith, imports_of, exports_of, legal_within_limits, imports_are_exports)
