use Rattle.std.proofs.Common.{◌∙◌, ap}
use Rattle.esr_history.specs.Machine.{HistoryView}
use Rattle.esr_history.specs.BackLinks.{last_place, accepted_item}
use Rattle.esr_history.proofs.Fitting.{legal_fit}
use Rattle.esr_history.proofs.history.History.last_on_item.Goals as goal

pub returns : goal.returns
returns g c =
    c.last_on_item.ensures _ _ c.self.invariant.3 (legal_fit g.M.Metric.distance_by (record { opening = _; weights = g.M.Metric.weights c.self.inside.by; entries = _ }) c.self.invariant.2)
    ∙ ap (λ (v : HistoryView). last_place accepted_item c.args.x.0 v.schedule.entries) c.self.view_is
