use Rattle.std.proofs.Common.{◌∙◌, ap}
use Rattle.esr_history.specs.Machine.{HistoryView}
use Rattle.esr_history.specs.BackLinks.{facts_of}
use Rattle.esr_history.proofs.Fitting.{legal_fit}
use Rattle.esr_history.proofs.history.History.facts.Goals as goal

pub returns : goal.returns
returns g c =
    c.facts.ensures _ _ c.self.invariant.3 (legal_fit g.M.Metric.distance_by (record { opening = _; weights = g.M.Metric.weights c.self.inside.by; entries = _ }) c.self.invariant.2)
    ∙ ap (λ (v : HistoryView). facts_of v.schedule.entries c.args.t.0) c.self.view_is
