use Rattle.std.proofs.Common.{◌≡◌, ℕ, ◌<◌, length}
use Rattle.esr_items.specs.Values.{committed_at, current_at}
use Rattle.esr_core.proofs.state.undo_each.Given as goal

abbrev pub invariant-loop-x : goal.invariant-loop-x
invariant-loop-x l =
    (length l.items ≡ length l.initial.items)
    × ((k : ℕ) → k < length l.initial.items → committed_at l.items k ≡ committed_at l.initial.items k)
    × ((k : ℕ) → k < l.x → current_at l.items k ≡ committed_at l.initial.items k)
