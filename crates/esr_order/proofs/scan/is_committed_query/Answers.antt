use Rattle.std.proofs.Common.{◌≡◌, ◌∙◌, ap, sym, ◌&&◌, true}
use Rattle.esr_history.specs.Events.{is_query, is_committed}
use Rattle.esr_history.specs.Machine.{accepted_in}
use Rattle.esr_order.specs.Scans.{is_commit_at}
use Rattle.esr_order.proofs.Commits.{query_some, end_some, commit_at_end}
use Rattle.esr_order.proofs.scan.is_committed_query.Goals as goal

pub returns-then-facts : goal.returns-then-facts
returns-then-facts g c =
    let h = c.args.history.now.schedule in
    let q = c.args.q.0 in
    let f = c.in-Some.facts in
    let some = sym c.in-Some.is ∙ c.facts.ensures in
    let query : is_query (accepted_in h) q ≡ true = sym (query_some h.entries q f some) ∙ c.if-facts.true in
    c.is_commit_at.ensures
    ∙ (ap (λ es. is_commit_at es f.end) c.log.ensures.entries
    ∙ (ap (is_commit_at h.entries) (end_some h.entries q f some)
    ∙ (commit_at_end g.M.Metric.distance_by h c.log.ensures.legal q ∙ sym (ap (λ b. b && is_committed (accepted_in h) q) query))))
