use Rattle.std.proofs.Common.{codes}
use Rattle.clap.specs.Words.{new_app}
use Rattle.esr_cli.specs.ArgumentRules as spec
use Rattle.esr_cli.proofs.commands.audit.Goals as goal

pub returns-clause-app : goal.returns-clause-app
returns-clause-app c =
    let with_script = c.with_script-command.ensures.app (new_app (codes "audit")) c.plain.ensures.app in
    let workers = rw c.workers.ensures.rule at (c.with_argument.ensures.app (spec.with_script (new_app (codes "audit"))) with_script) in
    rw c.format.ensures.rule at (c.with_argument-2.ensures.app _ workers)
