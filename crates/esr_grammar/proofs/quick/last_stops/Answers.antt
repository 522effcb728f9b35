use Rattle.esr_grammar.specs.Stops.{is_stop}
use Rattle.esr_grammar.proofs.Halves.{last_after_five}
use Rattle.esr_grammar.proofs.quick.last_stops.Goals as goal

pub returns : goal.returns
returns c = last_after_five is_stop c.args.line.now c.name_stops.result c.requires.long c.requires.short c.name_stops.ensures
