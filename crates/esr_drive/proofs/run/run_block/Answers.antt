use Rattle.std.proofs.Common.{rules}
use Rattle.esr_drive.proofs.run.run_block.Goals as goal

pub returns : goal.returns
returns g c = search rules
