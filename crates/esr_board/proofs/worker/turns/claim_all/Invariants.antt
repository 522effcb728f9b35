use Rattle.std.proofs.Common.{◌-◌, length, map}
use Rattle.esr_board.specs.Claims.{HasClaimed}
use Rattle.esr_board.specs.Boards.{IsSeatOf, claimed}
use Rattle.esr_board.specs.Shares.{AreKept}
use Rattle.esr_board.proofs.worker.turns.claim_all.Given as goal

abbrev pub invariant-loop-job : goal.invariant-loop-job
invariant-loop-job g l = record {
  seat : IsSeatOf l.board l.seat;
  has_claimed : HasClaimed l.board.jobs (claimed l.initial.seat) (claimed l.seat) (map (λ p. p.0) l.found.items);
  kept : AreKept g.T.AuditResult.keeps g.M.Metric.distance_by l.history.schedule l.jobs l.board.jobs l.found.items;
}

abbrev pub decreases-loop-job : goal.decreases-loop-job
decreases-loop-job g l = l.board.jobs - length (claimed l.seat)
