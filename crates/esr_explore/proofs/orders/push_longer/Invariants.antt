use Rattle.std.proofs.Common.{◌≡◌, ◌++◌, flat_map, map}
use Rattle.std.specs.List.{range_with_len}
use Rattle.esr_explore.specs.Orders.{longer_by}
use Rattle.esr_explore.proofs.orders.push_longer.Given as goal

-- the order with a turn of each block so far that has a line left
abbrev pub invariant-loop-block : goal.invariant-loop-block
invariant-loop-block l =
    map (λ o. o.items) l.out.items
    ≡ map (λ o. o.items) l.initial.out.items ++ flat_map (longer_by l.counts l.order) (range_with_len 0 l.block)
