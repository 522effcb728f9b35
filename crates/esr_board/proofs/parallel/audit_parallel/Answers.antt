use Rattle.std.proofs.Common.{Ok}
use Rattle.esr_audit.proofs.Stays.{findings_stay}
use Rattle.esr_board.proofs.Keeping.{book_kept}
use Rattle.esr_board.proofs.parallel.audit_parallel.Goals as goal

pub returns-in-Ok-clause-book : goal.returns-in-Ok-clause-book
returns-in-Ok-clause-book g c =
    book_kept g.M.Metric.distance_by c.args.history.now.schedule (record { order = c.in-Ok.field-0.order; findings = c.in-Ok.field-0.kept }) c.in-Ok.ensures.order c.in-Ok.ensures.kept

pub returns-in-Ok-clause-stable : goal.returns-in-Ok-clause-stable
returns-in-Ok-clause-stable g c =
    findings_stay g.M.Metric.distance_by c.args.history.now.schedule (Ok (record { order = c.in-Ok.field-0.order; findings = c.in-Ok.field-0.kept })) (returns-in-Ok-clause-book g c)
