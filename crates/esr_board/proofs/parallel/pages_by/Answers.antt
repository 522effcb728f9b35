use Rattle.std.proofs.Common.{rules, subst, List, ℕ}
use Rattle.esr_board.specs.Shares.{KeepsFindings}
use Rattle.esr_board.proofs.Keeping.{keeps_findings}
use Rattle.esr_board.proofs.parallel.pages_by.Goals as goal

pub returns-in-Ok-kept_by-clause-kept : goal.returns-in-Ok-kept_by-clause-kept
returns-in-Ok-kept_by-clause-kept g c =
    let keeps = g.T.AuditResult.keeps in let d = g.M.Metric.distance_by in let h = c.args.history.now.schedule in
    let kept = c.in-Ok-kept_by.kept.items in
    subst (λ (qs : List ℕ). KeepsFindings keeps d h qs kept) (search rules) (keeps_findings keeps d h _ kept c.in-Ok-kept_by.ensures.kept)
