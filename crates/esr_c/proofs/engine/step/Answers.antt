use Rattle.std.proofs.Common.{rules}
use Rattle.esr_c.proofs.engine.step.Goals as goal

pub returns : goal.returns
returns c = search rules
