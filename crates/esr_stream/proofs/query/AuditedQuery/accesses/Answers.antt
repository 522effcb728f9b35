use Rattle.std.proofs.Common.{◌<◌, All, length, refl, subst, sym}
use Rattle.esr_items.specs.Values.{IsValue}
use Rattle.esr_order.specs.declared.accesses.Access.{Access}
use Rattle.esr_order.proofs.Accessed.{accesses_inside}
use Rattle.esr_stream.specs.Query.{QueryView}
use Rattle.esr_stream.proofs.StepLaws.{accesses_valued}
use Rattle.esr_stream.proofs.query.AuditedQuery.accesses.Goals as goal

pub returns-clause-items : goal.returns-clause-items
returns-clause-items g c =
    let h = c.self.inside.history.now.schedule in
    subst (λ (a : QueryView). All (λ (r : Access). r.item.0 < length a.schedule.opening) c.in_ok-row.row.now) c.self.view_is
    (subst (All (λ (r : Access). r.item.0 < length h.opening)) (sym c.in_ok-row.ensures) (accesses_inside g.M.Metric.distance_by h c.log-invariant.ensures.legal _ (length h.opening) refl))

pub returns-clause-values : goal.returns-clause-values
returns-clause-values g c =
    subst (All (λ (r : Access). IsValue r.value)) (sym c.in_ok-row.ensures)
    (accesses_valued g.M.Metric.distance_by c.self.inside.history.now.schedule c.log-invariant.ensures.range c.log-invariant.ensures.legal _)
