use Rattle.esr_cli.specs.ArgumentRules as spec
use Rattle.esr_cli.proofs.commands.with_account_commands.Goals as goal

pub returns : goal.returns
returns c =
    c.add_command-2.ensures _ spec.why
    (c.in_ok-commands.ensures spec.with_query_commands spec.ledger c.in_ok-with_query_commands.ensures c.ledger.ensures.app) c.why.ensures.app
