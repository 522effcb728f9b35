use Rattle.std.proofs.Common.{◌∙◌, ap, sym}
use Rattle.esr_order.specs.Scans.{is_commit_at}
use Rattle.esr_order.proofs.Ended.{unbegun_is_active, end_commits, end_aborts, no_end_is_active}
use Rattle.esr_order.proofs.scan.outcome_of.Goals as goal

pub returns-in_default : goal.returns-in_default
returns-in_default g c =
    unbegun_is_active g.M.Metric.distance_by c.args.history.now.schedule c.log-log.ensures.legal c.args.t.0 (sym c.in_default.is ∙ c.facts.ensures)

pub returns-then-is_commit_at : goal.returns-then-is_commit_at
returns-then-is_commit_at g c =
    let h = c.args.history.now.schedule in
    end_commits g.M.Metric.distance_by h c.log-log.ensures.legal c.args.t.0 c.in-Some.facts (sym c.in-Some.is ∙ c.facts.ensures)
    (sym (c.is_commit_at.ensures ∙ ap (λ es. is_commit_at es c.in-Some.facts.end) c.log-log.ensures.entries) ∙ c.if-is_commit_at.true)

pub returns-then-is_some : goal.returns-then-is_some
returns-then-is_some g c =
    let h = c.args.history.now.schedule in
    end_aborts g.M.Metric.distance_by h c.log-log.ensures.legal c.args.t.0 c.in-Some.facts (sym c.in-Some.is ∙ c.facts.ensures)
    (sym (c.is_commit_at.ensures ∙ ap (λ es. is_commit_at es c.in-Some.facts.end) c.log-log.ensures.entries) ∙ c.if-is_commit_at.false)
    (sym c.is_some.ensures ∙ c.if-is_some.true)

pub returns-else-is_some : goal.returns-else-is_some
returns-else-is_some g c =
    no_end_is_active g.M.Metric.distance_by c.args.history.now.schedule c.log-log.ensures.legal c.args.t.0 c.in-Some.facts (sym c.in-Some.is ∙ c.facts.ensures)
    (sym c.is_some.ensures ∙ c.if-is_some.false)
