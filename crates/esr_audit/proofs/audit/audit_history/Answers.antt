use Rattle.esr_audit.proofs.Stays.{findings_stay}
use Rattle.esr_audit.proofs.audit.audit_history.Goals as goal

pub returns-clause-stable : goal.returns-clause-stable
returns-clause-stable g c = findings_stay g.M.Metric.distance_by c.args.history.now.schedule c.compute_book.result c.compute_book.ensures.book
