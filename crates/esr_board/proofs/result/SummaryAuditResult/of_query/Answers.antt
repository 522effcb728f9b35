use Rattle.std.proofs.Common.{◌∙◌}
use Rattle.esr_board.proofs.result.SummaryAuditResult.of_query.Goals as goal

pub returns-in-Ok-clause-kept : goal.returns-in-Ok-clause-kept
returns-in-Ok-clause-kept g c = let found = c.in-Ok.ensures.of_finding in (found.0, found.1, found.2, c.from.ensures ∙ found.3)
