use Rattle.std.proofs.Common.{codes}
use Rattle.clap.specs.Words.{new_app}
use Rattle.esr_cli.proofs.commands.trace.Goals as goal

pub returns-clause-app : goal.returns-clause-app
returns-clause-app c = c.with_script.ensures.app (new_app (codes "trace")) c.plain.ensures.app
