use Rattle.std.proofs.Common.{◌≡◌, List, Bool, length}
use Rattle.esr_stream.specs.Passes.{IsPrefixMarked, AreStates}
use Rattle.esr_stream.specs.Query.{cost_in}
use Rattle.esr_stream.proofs.pass.start.Given as goal

abbrev pub invariant-loop-i : goal.invariant-loop-i
invariant-loop-i g l = record {
  len : length l.states.items ≡ length l.query.schedule.opening;
  states : (marks : List Bool) → IsPrefixMarked l.mandatory_count marks → AreStates (cost_in g.M.Metric.distance_by l.query) l.query.schedule l.query.query l.i marks l.states.items;
}
