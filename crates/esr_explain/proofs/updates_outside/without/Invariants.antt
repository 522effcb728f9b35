use Rattle.std.proofs.Common.{◌≡◌, filter, not, take}
use Rattle.esr_order.specs.Placements.{is_among}
use Rattle.esr_explain.proofs.updates_outside.without.Given as goal

-- those so far
abbrev pub invariant-loop-t : goal.invariant-loop-t
invariant-loop-t l = l.kept.items ≡ filter (λ t. not (is_among l.numbers t.0)) (take l.t-index l.updates)
