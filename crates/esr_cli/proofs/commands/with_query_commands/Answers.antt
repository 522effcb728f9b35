use Rattle.std.proofs.Common.{codes}
use Rattle.esr_cli.specs.ArgumentRules as spec
use Rattle.esr_cli.proofs.commands.with_query_commands.Goals as goal

pub returns : goal.returns
returns c =
    c.add_command-3.ensures _ spec.page
    (c.in_ok-commands-2.ensures _ (spec.query_command (codes "picture"))
    (c.in_ok-commands.ensures spec.with_script_commands spec.explain c.in_ok-with_script_commands.ensures c.explain.ensures.app) c.query_command.ensures.app)
    c.page.ensures.app
