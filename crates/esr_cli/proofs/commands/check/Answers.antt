use Rattle.std.proofs.Common.{codes}
use Rattle.clap.specs.Words.{new_app}
use Rattle.esr_cli.specs.ArgumentRules as spec
use Rattle.esr_cli.proofs.commands.check.Goals as goal

pub returns-clause-app : goal.returns-clause-app
returns-clause-app c =
    let plain = c.with_file-command.ensures.app (new_app (codes "check")) c.plain.ensures.app in
    let script = rw c.script.ensures.rule at (c.with_argument.ensures.app (spec.with_file (new_app (codes "check"))) plain) in
    let query = rw c.query.ensures.rule at (c.with_argument-2.ensures.app _ script) in
    rw c.verbose.ensures.rule at (c.with_argument-3.ensures.app _ query)
