use Rattle.std.proofs.Common.{codes}
use Rattle.clap.specs.Words.{new_app}
use Rattle.esr_cli.proofs.commands.lint.Goals as goal

pub returns-clause-app : goal.returns-clause-app
returns-clause-app c = rw c.files.ensures.rule at (c.with_argument.ensures.app (new_app (codes "lint")) c.plain.ensures.app)
