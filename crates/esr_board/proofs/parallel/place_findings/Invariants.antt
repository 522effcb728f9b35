use Rattle.std.proofs.Common.{◌≡◌, ℕ, ◌⊎◌, length, map, vec_len}
use Rattle.esr_board.specs.Claims.{times}
use Rattle.esr_board.specs.Shares.{AreKept, IsFilled, AreCorrect}
use Rattle.esr_board.proofs.parallel.place_findings.Given as goal

abbrev pub invariant-loop-job : goal.invariant-loop-job
invariant-loop-job g l = record {
  len : vec_len l.slots ≡ vec_len l.initial.slots;
  share : AreKept g.T.AuditResult.keeps g.M.Metric.distance_by l.history.schedule l.jobs (length l.slots.items) l.found.items;
  right : AreCorrect g.T.AuditResult.keeps g.M.Metric.distance_by l.history.schedule l.jobs l.slots.items;
  kept : (k : ℕ) → IsFilled l.initial.slots.items k → IsFilled l.slots.items k;
  filled : (k : ℕ) → IsFilled l.slots.items k ⊎ (times k (map (λ p. p.0) l.found.items) ≡ times k (map (λ p. p.0) l.initial.found.items));
}

abbrev pub decreases-loop-job : goal.decreases-loop-job
decreases-loop-job g l = vec_len l.found
