use Rattle.std.proofs.Common.{◌≡◌, ℕ, ◌+◌, ◌-◌, vec_len, length, ◌≤◌}
use Rattle.esr_locks.specs.LockEntries.{items_locked_by}
use Rattle.esr_locks.proofs.table.grow_lists.Given as goal

abbrev pub invariant-loop-alloc : goal.invariant-loop-alloc
invariant-loop-alloc l = record {
  items : (u : ℕ) → (items_locked_by l.by_transaction.items u).items ≡ (items_locked_by l.initial.by_transaction.items u).items;
  longer : length l.initial.by_transaction.items ≤ length l.by_transaction.items;
}

abbrev pub decreases-loop-alloc : goal.decreases-loop-alloc
decreases-loop-alloc l = l.t.0 + 1 - vec_len l.by_transaction
