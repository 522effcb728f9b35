use Rattle.esr_grammar.specs.Command.{is_name_byte}
use Rattle.esr_grammar.proofs.Lasts.{last_stops}
use Rattle.esr_grammar.proofs.quick.all_name_bytes_at_end.Goals as goal

pub returns-then-text-ge8 : goal.returns-then-text-ge8
returns-then-text-ge8 c =
    last_stops is_name_byte c.args.text.now c.requires.0 c.args.word.now c.name_stops-stops.result c.requires.1 c.if-text-ge8.true c.if-word-le8.true c.name_stops-stops.ensures
