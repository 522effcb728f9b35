use Rattle.std.proofs.Common.{rules}
use Rattle.esr_cert.proofs.problem.Problem.new.Goals as goal

pub returns-then-not-branch-clause-err : goal.returns-then-not-branch-clause-err
returns-then-not-branch-clause-err c = search rules
