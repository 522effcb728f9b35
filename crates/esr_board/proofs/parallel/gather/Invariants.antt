use Rattle.std.proofs.Common.{◌≡◌, ℕ, ◌+◌, ◌<◌, length, vec_len, All}
use Rattle.esr_board.specs.Claims.{times, count_past}
use Rattle.esr_board.specs.Boards.{IsSeatOf, claimed, all_claimed}
use Rattle.esr_board.specs.Shares.{IsWorked, IsFilled, AreCorrect}
use Rattle.esr_board.proofs.parallel.gather.Given as goal

abbrev pub invariant-loop-next : goal.invariant-loop-next
invariant-loop-next g l = record {
  all : All (IsWorked g.T.AuditResult.keeps g.M.Metric.distance_by l.history.schedule l.jobs l.board) l.all.items;
  count : vec_len l.seats + vec_len l.all ≡ vec_len l.initial.all;
  seats : All (λ s. IsSeatOf l.board s × (0 < count_past l.board.jobs (claimed s))) l.seats.items;
  len : vec_len l.slots ≡ length l.jobs;
  right : AreCorrect g.T.AuditResult.keeps g.M.Metric.distance_by l.history.schedule l.jobs l.slots.items;
  filled : (k : ℕ) → k < l.board.jobs → 0 < times k (all_claimed l.seats.items) → IsFilled l.slots.items k;
}

abbrev pub decreases-loop-next : goal.decreases-loop-next
decreases-loop-next g l = vec_len l.all
