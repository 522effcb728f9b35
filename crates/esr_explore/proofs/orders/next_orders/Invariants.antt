use Rattle.std.proofs.Common.{◌≡◌, flat_map, map, take}
use Rattle.esr_explore.specs.Orders.{longer}
use Rattle.esr_explore.proofs.orders.next_orders.Given as goal

abbrev pub invariant-loop-order : goal.invariant-loop-order
invariant-loop-order l =
    map (λ o. o.items) l.next.items ≡ flat_map (longer l.counts) (map (λ o. o.items) (take l.order-index l.orders))
