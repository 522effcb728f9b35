use Rattle.std.proofs.Common.{rules}
use Rattle.esr_cert.proofs.certificate.Fault.number.Goals as goal

pub returns : goal.returns
returns c = search rules
