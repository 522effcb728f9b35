use Rattle.std.proofs.Common.{◌≡◌, map, filter}
use Rattle.std.specs.List.{range_with_len}
use Rattle.esr_history.specs.Events.{is_active}
use Rattle.esr_history.specs.Machine.{accepted_in}
use Rattle.esr_engine.specs.Carrying.{active_as}
use Rattle.esr_engine.proofs.ActivePlaces.{CoverUpTo}
use Rattle.esr_engine.proofs.engine.EmbeddedEngine.active_entries.Given as goal

abbrev pub invariant-loop-k : goal.invariant-loop-k
invariant-loop-k l = record {
  txns : l.txns.items ≡ map (active_as l.self) (filter (is_active (accepted_in l.self)) (range_with_len 1 l.k));
  places : CoverUpTo l.self l.k l.places.items;
}
