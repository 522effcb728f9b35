use Rattle.std.proofs.Common.{rules}
use Rattle.esr_cert.proofs.problem.Problem.must.Goals as goal

pub returns-clause-list : goal.returns-clause-list
returns-clause-list c = search rules
