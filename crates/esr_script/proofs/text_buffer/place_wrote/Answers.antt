use Rattle.std.proofs.Common.{arith, ◌+◌}
use Rattle.std.proofs.lemmas.List.{length-set}
use Rattle.esr_script.proofs.Places.{placed_then, placed_byte}
use Rattle.esr_script.proofs.text_buffer.place_wrote.Goals as goal

pub returns-clause-placed : goal.returns-clause-placed
returns-clause-placed c = placed_then (placed_byte 2 111 (omega (arith, c.requires.fits)) c.requires.long c.place-end.ensures) c.place_byte.ensures

pub returns-clause-end : goal.returns-clause-end
returns-clause-end c = omega (arith, c.place-end.ensures.moved, c.place_byte.ensures.moved)

pub returns-clause-len : goal.returns-clause-len
returns-clause-len c = omega (arith, c.place-end.ensures.len, c.place_byte.ensures.len, length-set c.place-end.new.buffer (c.args.at + 2) 111)
