use Rattle.std.proofs.Common.{rules}
use Rattle.esr_cert.proofs.problem.Problem.from_shaped_parts.Goals as goal

pub returns-then-not-is_in_range-clause-err : goal.returns-then-not-is_in_range-clause-err
returns-then-not-is_in_range-clause-err c = search rules
