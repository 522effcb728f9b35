use Rattle.std.proofs.Common.{◌≡◌, ◌<◌, ℕ, length}
use Rattle.esr_history.specs.Queries.{updates_committed_before}
use Rattle.esr_bound.specs.Amounts.{among_marked, left_by}
use Rattle.esr_stream.specs.Passes.{state_at}
use Rattle.esr_stream.specs.Query.{cost_in}
use Rattle.esr_stream.proofs.least.cost_of.Given as goal

abbrev pub invariant-loop-i : goal.invariant-loop-i
invariant-loop-i g l = record {
  len : length l.states ≡ length l.query.schedule.opening;
  costs : (x : ℕ) → x < length l.query.schedule.opening → (state_at l.states x).cost ≡ (cost_in g.M.Metric.distance_by l.query) x (left_by l.query.schedule l.query.query (among_marked (updates_committed_before l.query.schedule l.query.query) l.marks) l.i x);
}
