use Rattle.std.proofs.Common.{◌≡◌, ◌++◌, take}
use Rattle.esr_plan.specs.Text.{items_text}
use Rattle.esr_plan.proofs.text.push_items.Given as goal

-- the lines of the items so far
abbrev pub invariant-loop-i : goal.invariant-loop-i
invariant-loop-i l = l.out.items ≡ l.fn.out.items ++ items_text (take l.i l.names) (take l.i l.values) (take l.i l.weights)
