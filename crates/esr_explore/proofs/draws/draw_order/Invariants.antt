use Rattle.esr_explore.proofs.Drawn.{IsDrawn}
use Rattle.esr_explore.proofs.draws.draw_order.Given as goal

abbrev pub invariant-loop-turn : goal.invariant-loop-turn
invariant-loop-turn l = IsDrawn l.counts l.left.items l.order.items l.turn
