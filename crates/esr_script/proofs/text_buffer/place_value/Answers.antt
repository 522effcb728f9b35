use Rattle.std.proofs.Common.{arith}
use Rattle.esr_script.proofs.Places.{placed_then}
use Rattle.esr_script.proofs.text_buffer.place_value.Goals as goal

pub returns-clause-placed : goal.returns-clause-placed
returns-clause-placed c = placed_then c.place-after.ensures c.place_last.ensures.placed

pub returns-clause-end : goal.returns-clause-end
returns-clause-end c = omega (arith, c.place-after.ensures.moved, c.place_last.ensures.end)

pub returns-clause-len : goal.returns-clause-len
returns-clause-len c = omega (arith, c.place-after.ensures.len, c.place_last.ensures.len)
