use Rattle.std.proofs.Common.{take}
use Rattle.esr_explore.specs.Summaries.{AreInconsistencies}
use Rattle.esr_explore.proofs.run_summary.all_inconsistencies.Given as goal

abbrev pub invariant-loop-query : goal.invariant-loop-query
invariant-loop-query l = AreInconsistencies l.run.history.schedule l.run.all_progress.items (take l.query-index l.queries) l.inconsistencies.items
