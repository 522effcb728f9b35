use Rattle.std.proofs.Common.{arith}
use Rattle.esr_grammar.proofs.quick.stops_after.Goals as goal

pub returns : goal.returns
returns c = search arith
