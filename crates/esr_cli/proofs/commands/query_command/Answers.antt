use Rattle.clap.specs.Words.{new_app, with_rule}
use Rattle.esr_cli.specs.ArgumentRules as spec
use Rattle.esr_cli.proofs.commands.query_command.Goals as goal

pub returns-clause-app : goal.returns-clause-app
returns-clause-app c =
    let named = rw c.name.ensures.rule at (c.with_argument.ensures.app (new_app c.args.command_name.now) c.plain-command.ensures.app) in
    c.with_script.ensures.app (with_rule (new_app c.args.command_name.now) spec.name_rule) named
