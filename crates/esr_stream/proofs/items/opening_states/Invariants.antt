use Rattle.esr_stream.specs.Passes.{AreOpening}
use Rattle.esr_stream.specs.Query.{cost_in}
use Rattle.esr_stream.proofs.items.opening_states.Given as goal

abbrev pub invariant-loop-x : goal.invariant-loop-x
invariant-loop-x g l = AreOpening (cost_in g.M.Metric.distance_by l.query) l.query.schedule.opening l.x l.states.items
