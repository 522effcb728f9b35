use Rattle.std.proofs.Common.{codes}
use Rattle.clap.specs.Words.{new_app}
use Rattle.esr_cli.specs.ArgumentRules as spec
use Rattle.esr_cli.proofs.commands.timeline.Goals as goal

pub returns-clause-app : goal.returns-clause-app
returns-clause-app c =
    let with_script = c.with_script.ensures.app (new_app (codes "timeline")) c.plain.ensures.app in
    rw c.of.ensures.rule at (c.with_argument.ensures.app (spec.with_script (new_app (codes "timeline"))) with_script)
