use Rattle.std.proofs.Common.{◌≡◌, ◌+◌, ◌*◌, length, subst}
use Rattle.esr_history.specs.Queries.{cost}
use Rattle.esr_bound.specs.Amounts.{cost_by}
use Rattle.esr_stream.specs.Query.{QueryView, cost_in}
use Rattle.esr_stream.specs.declared.reads.TheConstants.{OFFSET}
use Rattle.esr_stream.proofs.CostLaws.{costs_are}
use Rattle.esr_stream.proofs.query.AuditedQuery.history.Goals as goal

pub returns-clause-costs : goal.returns-clause-costs
returns-clause-costs g c = λ S.
    let read = c.self.invariant.3 in
    subst (λ (a : QueryView). cost_by (length a.schedule.opening) (cost_in g.M.Metric.distance_by a) a.schedule a.query S ≡ length a.schedule.opening * OFFSET + cost g.M.Metric.distance_by a.schedule a.query S) c.self.view_is
    (costs_are g.M.Metric.distance_by c.self.inside.history.now.schedule c.self.inside.query.0 c.log-invariant.ensures.range c.log-invariant.ensures.legal c.self.inside.values_read.items read.count read.values S)
