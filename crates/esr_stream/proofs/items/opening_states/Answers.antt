use Rattle.std.proofs.Common.{◌≡◌, ℤ, List, length, arith, subst}
use Rattle.esr_stream.specs.Passes.{AreOpening}
use Rattle.esr_stream.specs.Query.{cost_in}
use Rattle.esr_stream.proofs.StepLaws.{opening_states_are}
use Rattle.esr_stream.proofs.items.opening_states.Goals as goal

pub returns : goal.returns
returns g c = λ marks.
    let C = cost_in g.M.Metric.distance_by c.args.query.now in
    let opening : List ℤ = c.args.query.now.schedule.opening in
    let all : c.loop-x.x ≡ length opening = omega (arith, c.items.ensures) in
    opening_states_are C c.args.query.now.schedule c.args.query.now.query marks c.loop-x.states.items (subst (λ m. AreOpening C opening m c.loop-x.states.items) all c.loop-x.invariant)
