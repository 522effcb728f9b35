use Rattle.std.proofs.Common.{◌≡◌, ◌++◌, take}
use Rattle.std.specs.List.{filter_map}
use Rattle.esr_engine.specs.Carrying.{carried_entry}
use Rattle.esr_engine.proofs.engine.EmbeddedEngine.push_entries.Given as goal

abbrev pub invariant-loop-i : goal.invariant-loop-i
invariant-loop-i l = l.entries.items ≡ l.fn.entries.items ++ filter_map (carried_entry l.self l.kind) (take l.i l.operations)
