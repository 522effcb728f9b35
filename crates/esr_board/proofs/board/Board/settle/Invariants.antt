use Rattle.std.proofs.Common.{◌≡◌, ℕ, ◌+◌, ◌*◌, ◌≤◌, [], All, vec_len, sum_by, length}
use Rattle.esr_board.specs.Claims.{passes_of}
use Rattle.esr_board.specs.Boards.{IsSeatOf, hand_of, claimed}
use Rattle.esr_board.proofs.board.Board.settle.Given as goal

abbrev pub invariant-loop-next : goal.invariant-loop-next
invariant-loop-next l = record {
  seats : All (IsSeatOf l.self) l.seats.items;
  table : l.all.table_id ≡ l.self.table.shared.table_id;
  no_slot : l.all.me.1 ≡ [];
  counted : l.counted ≡ length l.all.me.0.claimed;
  fits : l.counted + vec_len l.seats * 18446744073709551616 ≤ vec_len l.fn.seats * 18446744073709551616;
  numbers : (weight : ℕ → ℕ) → sum_by weight l.all.me.0.claimed + sum_by (λ s. sum_by weight (claimed s)) l.seats.items ≡ sum_by (λ s. sum_by weight (claimed s)) l.fn.seats.items;
  passes : passes_of l.self.jobs l.all.me.0 + sum_by (λ s. passes_of l.self.jobs (hand_of s)) l.seats.items ≡ sum_by (λ s. passes_of l.self.jobs (hand_of s)) l.fn.seats.items;
}

abbrev pub decreases-loop-next : goal.decreases-loop-next
decreases-loop-next l = vec_len l.seats
