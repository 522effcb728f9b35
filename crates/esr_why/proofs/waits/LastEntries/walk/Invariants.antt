use Rattle.std.proofs.Common.{◌≡◌, All}
use Rattle.esr_why.specs.Waits.{BeginsWith, IsWaiting}
use Rattle.esr_why.proofs.waits.LastEntries.walk.Given as goal

abbrev pub invariant-loop : goal.invariant-loop
invariant-loop l = record {
  waiting : All (IsWaiting l.log.entries) l.waits.items;
  first : BeginsWith l.fn.first l.waits.items;
  places : l.self.places ≡ l.fn.self.places;
}
