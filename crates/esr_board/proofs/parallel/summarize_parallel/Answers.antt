use Rattle.std.proofs.Common.{Ok}
use Rattle.esr_audit.proofs.Stays.{summaries_stay}
use Rattle.esr_board.proofs.Keeping.{summaries_kept}
use Rattle.esr_board.proofs.parallel.summarize_parallel.Goals as goal

pub returns-in-Ok-clause-summaries : goal.returns-in-Ok-clause-summaries
returns-in-Ok-clause-summaries g c =
    summaries_kept g.M.Metric.distance_by c.args.history.now.schedule (record { order = c.in-Ok.field-0.order; summaries = c.in-Ok.field-0.kept }) c.in-Ok.ensures.order c.in-Ok.ensures.kept

pub returns-in-Ok-clause-stable : goal.returns-in-Ok-clause-stable
returns-in-Ok-clause-stable g c =
    summaries_stay g.M.Metric.distance_by c.args.history.now.schedule (Ok (record { order = c.in-Ok.field-0.order; summaries = c.in-Ok.field-0.kept })) (returns-in-Ok-clause-summaries g c)
