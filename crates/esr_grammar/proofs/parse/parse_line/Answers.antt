use Rattle.esr_grammar.specs.Command.{view}
use Rattle.esr_grammar.specs.declared.parse.Parsed.TheVariants.{Command}
use Rattle.esr_grammar.proofs.Spelling.{spelled, read_back, not_skipped, is_skipped_as_read, is_command_as_read}
use Rattle.esr_grammar.proofs.parse.parse_line.Goals as goal

pub returns-in-Some-clause-skipped : goal.returns-in-Some-clause-skipped
returns-in-Some-clause-skipped c =
    let found = c.in-Some in
    is_skipped_as_read c.args.line.now (Command found.found) (not_skipped c.args.line.now (view found.found) found.ensures, spelled c.args.line.now (view found.found) found.ensures)

pub returns-in-Some-clause-read : goal.returns-in-Some-clause-read
returns-in-Some-clause-read c =
    let found = c.in-Some in
    (not_skipped c.args.line.now (view found.found) found.ensures, spelled c.args.line.now (view found.found) found.ensures)

pub returns-in-Some-clause-command : goal.returns-in-Some-clause-command
returns-in-Some-clause-command c =
    let found = c.in-Some in
    is_command_as_read c.args.line.now (Command found.found) (not_skipped c.args.line.now (view found.found) found.ensures, spelled c.args.line.now (view found.found) found.ensures)

pub returns-in-Some-clause-law : goal.returns-in-Some-clause-law
returns-in-Some-clause-law c k = (read_back c.args.line.now k, spelled c.args.line.now k)

pub returns-in-None-clause-skipped : goal.returns-in-None-clause-skipped
returns-in-None-clause-skipped c = is_skipped_as_read c.args.line.now c.other_line.result c.other_line.ensures

pub returns-in-None-clause-command : goal.returns-in-None-clause-command
returns-in-None-clause-command c = is_command_as_read c.args.line.now c.other_line.result c.other_line.ensures

pub returns-in-None-clause-law : goal.returns-in-None-clause-law
returns-in-None-clause-law c k = (read_back c.args.line.now k, spelled c.args.line.now k)
