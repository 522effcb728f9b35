use Rattle.esr_replay.specs.Replays.{so_far}
use Rattle.esr_why.specs.Waits.{AreLastEntries}
use Rattle.esr_why.proofs.reasons.Reporter.report_all.Given as goal

abbrev pub invariant-loop : goal.invariant-loop
invariant-loop l = AreLastEntries (so_far l.self.replay).entries l.self.last_entries.places.items
