use Rattle.std.proofs.Common.{Result, Ok, Err, IfOk}
use Rattle.esr_board.proofs.Keeping.{found_if_ok}
use Rattle.esr_board.proofs.worker.turns.work.Goals as goal

pub returns-clause-found : goal.returns-clause-found
returns-clause-found g c = found_if_ok g.M.Metric.distance_by c.args.history.now.schedule c.args.jobs.now c.args.board.now.jobs c.claim_all.result c.claim_all.ensures.kept
