use Rattle.std.proofs.Common.{◌≡◌, ◌++◌, flat_map, take}
use Rattle.esr_dump.specs.Lines.{entry_text}
use Rattle.esr_dump.proofs.spelling.push_entries.Given as goal

abbrev pub invariant-loop-i : goal.invariant-loop-i
invariant-loop-i l = l.out.items ≡ l.initial.out.items ++ flat_map (entry_text l.items l.transactions) (take l.i l.log.entries)
