use Rattle.std.proofs.Common.{◌≡◌, ℕ, [], length}
use Rattle.esr_order.specs.ReadValues.{list_at}
use Rattle.esr_order.proofs.read_values.empty_lists.Given as goal

abbrev pub invariant-loop-i : goal.invariant-loop-i
invariant-loop-i l = record {
  count : length l.lists.items ≡ l._i;
  none : (x : ℕ) → list_at l.lists.items x ≡ [];
}
