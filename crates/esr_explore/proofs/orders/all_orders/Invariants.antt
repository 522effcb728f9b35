use Rattle.std.proofs.Common.{◌≡◌, map}
use Rattle.esr_explore.specs.Orders.{first_turns}
use Rattle.esr_explore.proofs.orders.all_orders.Given as goal

abbrev pub invariant-loop-turn : goal.invariant-loop-turn
invariant-loop-turn l = map (λ o. o.items) l.orders.items ≡ first_turns l.counts l._turn
