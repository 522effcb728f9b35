use Rattle.std.proofs.Common.{◌≡◌, ℕ, ◌<◌, length, take, if◌then◌else◌}
use Rattle.esr_locks.specs.LockEntries.{entry_at}
use Rattle.esr_locks.specs.Tables.{contains_item, released}
use Rattle.esr_locks.proofs.table.release_each.Given as goal

abbrev pub invariant-loop-x : goal.invariant-loop-x
invariant-loop-x l = record {
  len : length l.entries.items ≡ length l.initial.entries.items;
  locks : (y : ℕ) → y < length l.initial.entries.items → (entry_at l.entries.items y).locks ≡ (if contains_item (take l.x-index l.items) y then released l.t.0 (entry_at l.initial.entries.items y).locks else (entry_at l.initial.entries.items y).locks);
}
