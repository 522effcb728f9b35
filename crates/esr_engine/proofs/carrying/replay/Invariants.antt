use Rattle.std.proofs.Common.{◌≡◌, take, drop}
use Rattle.esr_items.specs.Weights.{weighted}
use Rattle.esr_history.specs.Legal.{continued}
use Rattle.esr_history.specs.Machine.{IsLegalAfter}
use Rattle.esr_engine.proofs.carrying.replay.Given as goal

abbrev pub invariant-loop-entry : goal.invariant-loop-entry
invariant-loop-entry l = record {
  replayed : l.machine ≡ continued l.initial.machine (take l.entry-index l.entries);
  legal : IsLegalAfter weighted l.machine (drop l.entry-index l.entries);
}
