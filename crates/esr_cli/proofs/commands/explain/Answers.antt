use Rattle.std.proofs.Common.{codes}
use Rattle.clap.specs.Words.{with_rule}
use Rattle.esr_cli.specs.ArgumentRules as spec
use Rattle.esr_cli.proofs.commands.explain.Goals as goal

pub returns-clause-app : goal.returns-clause-app
returns-clause-app c =
    let prose = rw c.prose.ensures.rule at (c.with_argument.ensures.app (spec.query_command (codes "explain")) c.query_command-command.ensures.app) in
    rw c.format.ensures.rule at (c.with_argument-2.ensures.app (with_rule (spec.query_command (codes "explain")) spec.prose_rule) prose)
