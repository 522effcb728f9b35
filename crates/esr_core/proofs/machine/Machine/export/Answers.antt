use Rattle.std.proofs.Common.{arith}
use Rattle.esr_core.proofs.Accounts.{export_is, open_update_is}
use Rattle.esr_core.proofs.Exports.{exports_nothing}
use Rattle.esr_core.proofs.machine.Machine.export.Goals as goal

pub export-requires : goal.export-requires
export-requires g c = grind (arith, open_update_is)

pub returns-then-is_update : goal.returns-then-is_update
returns-then-is_update g c = grind (arith, export_is)

pub returns-else-is_update : goal.returns-else-is_update
returns-else-is_update g c = grind (arith, exports_nothing)
