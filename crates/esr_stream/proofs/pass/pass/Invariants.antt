use Rattle.std.proofs.Common.{◌≡◌, length}
use Rattle.esr_stream.specs.Passes.{KeepsEnough, KeepsInvariant, StayMarked}
use Rattle.esr_stream.specs.Query.{cost_in}
use Rattle.esr_stream.proofs.pass.pass.Given as goal

abbrev pub invariant-loop-i : goal.invariant-loop-i
invariant-loop-i g l = record {
  len : length l.states ≡ length l.query.schedule.opening;
  marks : length l.marks ≡ length l.fn.marks;
  stay : StayMarked l.fn.marks l.marks;
  passed : KeepsInvariant (length l.query.schedule.opening) (cost_in g.M.Metric.distance_by l.query) l.query.schedule l.query.query l.from l.i l.fn.marks l.fn.states l.marks l.states;
  enough : KeepsEnough (length l.query.schedule.opening) (cost_in g.M.Metric.distance_by l.query) l.query.schedule l.query.query l.from l.i l.fn.marks l.fn.states l.states;
}
