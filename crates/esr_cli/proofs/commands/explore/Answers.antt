use Rattle.std.proofs.Common.{codes}
use Rattle.clap.specs.Words.{new_app}
use Rattle.esr_cli.specs.ArgumentRules as spec
use Rattle.esr_cli.proofs.commands.explore.Goals as goal

pub returns-clause-app : goal.returns-clause-app
returns-clause-app c =
    let reads = c.with_file-command.ensures.app (new_app (codes "explore")) c.plain.ensures.app in
    let seeds = rw c.seeds.ensures.rule at (c.with_argument.ensures.app (spec.with_file (new_app (codes "explore"))) reads) in
    let all = rw c.all.ensures.rule at (c.with_argument-2.ensures.app _ seeds) in
    rw c.worst_by.ensures.rule at (c.with_argument-3.ensures.app _ all)
