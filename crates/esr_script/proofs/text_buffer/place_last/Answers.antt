use Rattle.std.proofs.Common.{arith}
use Rattle.esr_script.proofs.Places.{placed_then}
use Rattle.esr_script.proofs.text_buffer.place_last.Goals as goal

pub returns-clause-placed : goal.returns-clause-placed
returns-clause-placed c = placed_then c.place_byte-start.ensures (placed_then c.place-end.ensures c.place_byte.ensures)

pub returns-clause-end : goal.returns-clause-end
returns-clause-end c = omega (arith, c.place_byte-start.ensures.moved, c.place-end.ensures.moved, c.place_byte.ensures.moved)

pub returns-clause-len : goal.returns-clause-len
returns-clause-len c = omega (arith, c.place_byte-start.ensures.len, c.place-end.ensures.len, c.place_byte.ensures.len)
