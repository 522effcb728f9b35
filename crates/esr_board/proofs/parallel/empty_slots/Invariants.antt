use Rattle.std.proofs.Common.{◌≡◌, ℕ, get_or, vec_len, None}
use Rattle.esr_board.proofs.parallel.empty_slots.Given as goal

abbrev pub invariant-loop : goal.invariant-loop
invariant-loop g l = (vec_len l.slots ≡ l.counter) × ((k : ℕ) → get_or l.slots.items k None ≡ None)
