use Rattle.std.proofs.Common.{◌≡◌, length}
use Rattle.esr_stream.specs.Closing.{seen_later}
use Rattle.esr_stream.specs.Passes.{NoneMarkedFrom}
use Rattle.esr_stream.proofs.ClosingLaws.{IsClosedFrom}
use Rattle.esr_stream.proofs.closing.close.Given as goal

abbrev pub invariant-loop-i : goal.invariant-loop-i
invariant-loop-i g l = record {
  read : length l.later.read.items ≡ length l.query.schedule.opening;
  written : length l.later.written.items ≡ length l.query.schedule.opening;
  closed : IsClosedFrom l.query.schedule l.query.query l.i l.fn.marks l.marks (seen_later l.later);
  none_marked : NoneMarkedFrom l.to l.marks;
}
