use Rattle.std.proofs.Common.{◌∙◌, ap, w64}
use Rattle.std.proofs.lemmas.Int.{to_z-of_z}
use Rattle.esr_stream.specs.Query.{QueryView, cost_in}
use Rattle.esr_stream.specs.Reads.{offset_cost}
use Rattle.esr_stream.proofs.ValueLists.{value_fits}
use Rattle.esr_stream.proofs.query.AuditedQuery.cost.Goals as goal

pub returns : goal.returns
returns g c =
    let d = g.M.Metric.distance_by in
    c.offset_cost.ensures
    ∙ ap (offset_cost (d (g.M.Metric.weights c.metric.result.now)) c.deref.result.now c.args.x.0) (to_z-of_z w64 c.args.version (value_fits c.args.version c.requires.version))
    ∙ ap (λ w. offset_cost (d w) c.deref.result.now c.args.x.0 c.args.version) c.metric.ensures
    ∙ ap (λ vs. offset_cost (d c.self.inside.history.now.schedule.weights) vs c.args.x.0 c.args.version) c.deref.ensures.value
    ∙ ap (λ (a : QueryView). cost_in d a c.args.x.0 c.args.version) c.self.view_is
