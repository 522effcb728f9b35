use Rattle.std.proofs.Common.{arith}
use Rattle.esr_board.proofs.Slots.{worked_is}
use Rattle.esr_board.proofs.worker.turns.take_turns.Goals as goal

pub returns : goal.returns
returns g c = grind (arith, worked_is)
