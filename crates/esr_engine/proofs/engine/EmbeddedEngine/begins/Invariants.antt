use Rattle.std.proofs.Common.{◌≡◌, map, take}
use Rattle.esr_items.specs.Weights.{weighted}
use Rattle.esr_core.specs.Carried.{active_numbers, carried_begin}
use Rattle.esr_engine.proofs.engine.EmbeddedEngine.begins.Given as goal

abbrev pub invariant-loop-i : goal.invariant-loop-i
invariant-loop-i l = l.entries.items ≡ map (carried_begin weighted l.self) (take l.i (active_numbers l.self))
