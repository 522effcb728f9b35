use Rattle.std.proofs.Common.{◌∙◌, ap, w64}
use Rattle.std.proofs.lemmas.Int.{to_z-of_z}
use Rattle.esr_items.specs.Values.{value_at}
use Rattle.esr_stream.specs.Query.{QueryView, cost_in}
use Rattle.esr_stream.proofs.ValueLists.{value_fits}
use Rattle.esr_stream.proofs.query.AuditedQuery.opening_cost.Goals as goal

pub returns : goal.returns
returns g c =
    c.cost.ensures
    ∙ ap (cost_in g.M.Metric.distance_by c.args.self.now c.args.x.0)
    (to_z-of_z w64 c.opening.result (value_fits c.opening.result c.opening.ensures.range) ∙ c.opening.ensures.value ∙ ap (λ (a : QueryView). value_at a.schedule.opening c.args.x.0) c.self.view_is)
