use Rattle.esr_board.proofs.Keeping.{finding_kept}
use Rattle.esr_board.proofs.result.FindingAuditResult.of_query.Goals as goal

pub returns-clause-kept : goal.returns-clause-kept
returns-clause-kept g c =
    finding_kept g.M.Metric.distance_by c.args.history.now.schedule c.args.q c.audit_query_with_index.result c.audit_query_with_index.ensures.query c.audit_query_with_index.ensures.finding
