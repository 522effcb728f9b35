use Rattle.std.proofs.Common.{codes}
use Rattle.esr_cli.specs.ArgumentRules as spec
use Rattle.esr_cli.proofs.commands.certify.Goals as goal

pub returns-clause-app : goal.returns-clause-app
returns-clause-app c = rw c.steps.ensures.rule at (c.with_argument.ensures.app (spec.query_command (codes "certify")) c.query_command.ensures.app)
