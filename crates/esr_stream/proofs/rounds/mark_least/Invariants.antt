use Rattle.std.proofs.Common.{◌≡◌, ◌≤◌, length}
use Rattle.esr_history.specs.Queries.{must}
use Rattle.esr_bound.specs.Amounts.{AreForced}
use Rattle.esr_stream.specs.Passes.{HasStates, IsEnough, IsPrefixMarked, NoneMarkedFrom}
use Rattle.esr_stream.specs.Query.{cost_in, updates_of}
use Rattle.esr_stream.proofs.rounds.mark_least.Given as goal

abbrev pub invariant-loop-round : goal.invariant-loop-round
invariant-loop-round g l = record {
  len : length l.marks ≡ length l.fn.marks;
  low : length (must l.query.schedule l.query.query) ≤ l.prefix.len;
  within : l.prefix.len ≤ l.last_stop;
  high : l.last_stop ≤ length (updates_of l.query);
  prefix_marked : IsPrefixMarked l.prefix.len l.marks;
  none_marked : NoneMarkedFrom l.last_end.len l.marks;
  states : HasStates (cost_in g.M.Metric.distance_by l.query) l.query.schedule l.query.query l.prefix;
  forced : IsEnough (length l.query.schedule.opening) (cost_in g.M.Metric.distance_by l.query) l.query.schedule l.query.query l.last_end
      → AreForced (length l.query.schedule.opening) (cost_in g.M.Metric.distance_by l.query) l.query.schedule l.query.query l.worth l.marks;
}
