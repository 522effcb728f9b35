use Rattle.std.proofs.Common.{codes}
use Rattle.clap.specs.Words.{new_app}
use Rattle.esr_cli.specs.ArgumentRules as spec
use Rattle.esr_cli.proofs.commands.with_script_commands.Goals as goal

pub returns : goal.returns
returns c =
    c.add_command-3.ensures _ spec.check
    (c.in_ok-commands-2.ensures _ spec.certify
    (c.in_ok-commands.ensures spec.esr (spec.with_script (new_app (codes "run"))) c.bare_program.ensures c.run.ensures.app)
    c.certify.ensures.app)
    c.check.ensures.app
