use Rattle.std.proofs.Common.{rules}
use Rattle.esr_script.proofs.bundles.line_of.Goals as goal

pub returns : goal.returns
returns c = search rules
