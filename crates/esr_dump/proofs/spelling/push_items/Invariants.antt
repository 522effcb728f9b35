use Rattle.std.proofs.Common.{◌≡◌, ◌++◌, flat_map}
use Rattle.std.specs.List.{range_with_len}
use Rattle.esr_dump.specs.Lines.{item_text}
use Rattle.esr_dump.proofs.spelling.push_items.Given as goal

abbrev pub invariant-loop-x : goal.invariant-loop-x
invariant-loop-x l = l.out.items ≡ l.initial.out.items ++ flat_map (item_text l.items l.history.schedule) (range_with_len 0 l.x)
