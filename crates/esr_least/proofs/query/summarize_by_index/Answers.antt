use Rattle.std.proofs.Common.{◌∙◌, sym}
use Rattle.esr_least.proofs.SummarizesFinding.{is_of_finding}
use Rattle.esr_least.proofs.Stable.{from_now}
use Rattle.esr_least.proofs.query.summarize_by_index.Goals as goal

pub returns-in-Ok-Some-clause-stable : goal.returns-in-Ok-Some-clause-stable
returns-in-Ok-Some-clause-stable g c = from_now g.M.Metric.distance_by c.args.history.now.schedule c.args.q.0 c.of_least.result (sym c.is_committed_query.ensures ∙ c.if-not-is_committed_query.false) c.of_least.ensures

pub returns-clause-stable : goal.returns-clause-stable
returns-clause-stable g c = from_now g.M.Metric.distance_by c.args.history.now.schedule c.args.q.0 c.of_finding.result (sym c.is_committed_query.ensures ∙ c.if-not-is_committed_query.false) c.of_finding.ensures

pub returns-in-Ok-Some-clause-of_finding : goal.returns-in-Ok-Some-clause-of_finding
returns-in-Ok-Some-clause-of_finding g c =
    is_of_finding g.M.Metric.distance_by (λ w. record { same = g.met.M.Metric.same w; symmetric = g.met.M.Metric.symmetric w; triangle = g.met.M.Metric.triangle w }) g.met.M.Metric.bounded
    c.args.history.now.schedule c.log-invariant.ensures.legal c.log-invariant.ensures.range c.log-invariant.ensures.items c.args.q c.of_least.result
    (sym c.is_committed_query.ensures ∙ c.if-not-is_committed_query.false) c.of_least.ensures

pub returns-clause-of_finding : goal.returns-clause-of_finding
returns-clause-of_finding g c =
    is_of_finding g.M.Metric.distance_by (λ w. record { same = g.met.M.Metric.same w; symmetric = g.met.M.Metric.symmetric w; triangle = g.met.M.Metric.triangle w }) g.met.M.Metric.bounded
    c.args.history.now.schedule c.log-invariant.ensures.legal c.log-invariant.ensures.range c.log-invariant.ensures.items c.args.q c.of_finding.result
    (sym c.is_committed_query.ensures ∙ c.if-not-is_committed_query.false) c.of_finding.ensures
