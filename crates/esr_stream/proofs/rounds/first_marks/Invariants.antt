use Rattle.std.proofs.Common.{◌≡◌, ◌<◌, ℕ, length, nat_lt}
use Rattle.esr_bound.specs.Amounts.{mark_at}
use Rattle.esr_stream.proofs.rounds.first_marks.Given as goal

abbrev pub invariant-loop-i : goal.invariant-loop-i
invariant-loop-i l = record {
  len : length l.marks.items ≡ l.i;
  marks : (i : ℕ) → i < l.i → mark_at l.marks.items i ≡ nat_lt i l.set_count;
}
