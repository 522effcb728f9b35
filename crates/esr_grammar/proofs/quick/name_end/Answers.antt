use Rattle.std.proofs.Common.{arith}
use Rattle.esr_grammar.specs.Stops.{is_stop}
use Rattle.esr_grammar.proofs.Lanes.{first_passes}
use Rattle.esr_grammar.proofs.quick.name_end.Goals as goal

pub returns-then-stops-ne0 : goal.returns-then-stops-ne0
returns-then-stops-ne0 c =
    first_passes is_stop 8 c.args.bytes.now c.name_stops-stops.result (omega arith) c.if-bytes-ge8.true c.name_stops-stops.ensures c.if-stops-ne0.true
