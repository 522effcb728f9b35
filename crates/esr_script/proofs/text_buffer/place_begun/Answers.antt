use Rattle.std.proofs.Common.{arith, ◌+◌}
use Rattle.std.proofs.lemmas.List.{length-set}
use Rattle.esr_script.proofs.Places.{placed_then, placed_byte}
use Rattle.esr_script.proofs.text_buffer.place_begun.Goals as goal

pub returns-clause-placed : goal.returns-clause-placed
returns-clause-placed c = placed_then (placed_byte 3 117 (omega (arith, c.requires.fits)) c.requires.long c.place-after.ensures) c.place_last.ensures.placed

pub returns-clause-end : goal.returns-clause-end
returns-clause-end c = omega (arith, c.place-after.ensures.moved, c.place_last.ensures.end)

pub returns-clause-len : goal.returns-clause-len
returns-clause-len c = omega (arith, c.place-after.ensures.len, c.place_last.ensures.len, length-set c.place-after.new.buffer (c.args.at + 3) 117)
