use Rattle.std.proofs.Common.{◌≡◌, map, take}
use Rattle.esr_items.specs.Weights.{weighted}
use Rattle.esr_core.specs.Carried.{active_numbers}
use Rattle.esr_engine.specs.Carrying.{carried_as}
use Rattle.esr_engine.proofs.engine.EmbeddedEngine.carried_txns.Given as goal

abbrev pub invariant-loop-t : goal.invariant-loop-t
invariant-loop-t l = l.carried.items ≡ map (carried_as weighted l.self) (take l.t-index (active_numbers l.self))
