use Rattle.std.proofs.Common.{◌≡◌, take, map, All}
use Rattle.esr_items.specs.Values.{IsValue}
use Rattle.esr_core.proofs.machine.committed_values.Given as goal

abbrev pub invariant-loop-x : goal.invariant-loop-x
invariant-loop-x l = (l.values.items ≡ map (λ w. w.committed) (take l.x l.items)) × All IsValue l.values.items
