use Rattle.std.proofs.Common.{rules}
use Rattle.esr_cert.proofs.problem.Problem.from_valid_parts.Goals as goal

pub returns : goal.returns
returns c = search rules
