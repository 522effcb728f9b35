use Rattle.std.proofs.Common.{◌≡◌}
use Rattle.esr_replay.proofs.replay.Replay.finish.Given as goal

abbrev pub invariant-loop : goal.invariant-loop
invariant-loop g l = record {
  history : l.self.history ≡ l.fn.self.history;
  count : l.self.count ≡ l.counter;
}
