use Rattle.esr_cli.specs.ArgumentRules as spec
use Rattle.esr_cli.proofs.commands.with_diagnosis_commands.Goals as goal

pub returns : goal.returns
returns c =
    c.add_command-3.ensures _ spec.shrink
    (c.in_ok-commands-2.ensures _ spec.trace
    (c.in_ok-commands.ensures spec.with_account_commands spec.timeline c.in_ok-with_account_commands.ensures c.timeline.ensures.app) c.trace.ensures.app)
    c.shrink.ensures.app
