use Rattle.std.proofs.Common.{codes}
use Rattle.clap.specs.Words.{new_app}
use Rattle.esr_cli.specs.ArgumentRules as spec
use Rattle.esr_cli.proofs.commands.drive.Goals as goal

pub returns-clause-app : goal.returns-clause-app
returns-clause-app c =
    let reads = c.with_file-command.ensures.app (new_app (codes "drive")) c.plain.ensures.app in
    let workers = rw c.workers.ensures.rule at (c.with_argument.ensures.app (spec.with_file (new_app (codes "drive"))) reads) in
    rw c.as_script.ensures.rule at (c.with_argument-2.ensures.app _ workers)
