use Rattle.std.proofs.Common.{rules}
use Rattle.esr_cert.proofs.residual.PackedResidualArc.of.Goals as goal

pub returns : goal.returns
returns c = search rules
