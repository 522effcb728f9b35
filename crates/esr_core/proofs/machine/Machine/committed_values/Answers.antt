use Rattle.std.proofs.Common.{ap, ◌∙◌}
use Rattle.std.proofs.lemmas.Result.{IfOk-weaker}
use Rattle.esr_history.specs.Machine.{accepted_in}
use Rattle.esr_core.specs.Renewed.{committed_values}
use Rattle.esr_core.proofs.Renewed.{tied_values}
use Rattle.esr_core.proofs.machine.Machine.committed_values.Goals as goal

pub returns-clause-values : goal.returns-clause-values
returns-clause-values g c =
    let h = c.self.inside.history.schedule in
    let values = tied_values (g.M.Metric.distance_by h.weights) h.opening (accepted_in h) _ _ _ _ c.self.invariant.0 in
    IfOk-weaker c.committed_values.result _ _ (λ v is. is ∙ (values ∙ ap committed_values c.self.view_is)) c.committed_values.ensures.values
