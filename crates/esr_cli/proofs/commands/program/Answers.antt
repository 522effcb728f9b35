use Rattle.esr_cli.specs.ArgumentRules as spec
use Rattle.esr_cli.proofs.commands.program.Goals as goal

pub returns : goal.returns
returns c =
    c.add_command-4.ensures _ spec.lint
    (c.in_ok-commands-3.ensures _ spec.explore
    (c.in_ok-commands-2.ensures _ spec.drive
    (c.in_ok-commands.ensures spec.with_diagnosis_commands spec.audit c.in_ok-with_diagnosis_commands.ensures c.audit.ensures.app) c.drive.ensures.app)
    c.explore.ensures.app)
    c.lint.ensures.app
