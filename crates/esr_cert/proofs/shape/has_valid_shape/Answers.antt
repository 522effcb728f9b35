use Rattle.std.proofs.Common.{rules}
use Rattle.esr_cert.proofs.shape.has_valid_shape.Goals as goal

pub returns : goal.returns
returns c = search rules
