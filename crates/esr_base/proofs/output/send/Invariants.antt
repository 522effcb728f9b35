use Rattle.std.proofs.Common.{◌≡◌, length, ◌-◌, ◌≤◌, take}
use Rattle.std.specs.Io.KnownBytes.{Appends}
use Rattle.esr_base.specs.Watch.{inner, failed}
use Rattle.esr_base.proofs.output.send.Given as goal

abbrev pub invariant-loop-sent : goal.invariant-loop-sent
invariant-loop-sent g l = record {
  bound : l.sent ≤ length l.bytes;
  taken : Appends (g.W.Write.contents (inner l.initial.writer)) (g.W.Write.contents (inner l.writer)) (take l.sent l.bytes);
  failed : failed l.writer ≡ failed l.initial.writer;
}

abbrev pub decreases-loop-sent : goal.decreases-loop-sent
decreases-loop-sent g l = length l.bytes - l.sent
