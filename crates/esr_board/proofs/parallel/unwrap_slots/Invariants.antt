use Rattle.std.proofs.Common.{◌≡◌, ℕ, ◌≤◌, get_or, take, vec_len, None}
use Rattle.std.specs.List.{AllZip}
use Rattle.esr_board.specs.Shares.{IsKeptOf}
use Rattle.esr_board.proofs.parallel.unwrap_slots.Given as goal

abbrev pub invariant-loop-k : goal.invariant-loop-k
invariant-loop-k g l = record {
  len : vec_len l.slots ≡ vec_len l.initial.slots;
  rest : (j : ℕ) → l.k ≤ j → get_or l.slots.items j None ≡ get_or l.initial.slots.items j None;
  kept : AllZip (IsKeptOf g.T.AuditResult.keeps g.M.Metric.distance_by l.history.schedule) (take l.k l.jobs) l.kept.items;
}
