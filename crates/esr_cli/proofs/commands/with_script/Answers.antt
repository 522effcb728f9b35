use Rattle.clap.specs.Words.{with_rule}
use Rattle.esr_cli.specs.ArgumentRules as spec
use Rattle.esr_cli.proofs.commands.with_script.Goals as goal

pub returns-clause-app : goal.returns-clause-app
returns-clause-app c whole is =
    let bailing = rw c.bail.ensures.rule at (c.with_argument-command.ensures.app (spec.with_file whole) (c.with_file.ensures.app whole is)) in
    let shown = rw c.progress.ensures.rule at (c.with_argument.ensures.app (with_rule (spec.with_file whole) spec.bail_rule) bailing) in
    rw c.no_progress.ensures.rule at (c.with_argument-2.ensures.app _ shown)
