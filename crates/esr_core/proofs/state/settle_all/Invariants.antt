use Rattle.std.proofs.Common.{◌≡◌, ℕ, ◌<◌, take, length, if◌then◌else◌, ◌&&◌, not}
use Rattle.esr_items.specs.Values.{current_at, committed_at}
use Rattle.esr_locks.specs.Tables.{locks_at, is_writer, contains_item}
use Rattle.esr_core.specs.States.{keeps}
use Rattle.esr_core.proofs.state.settle_all.Given as goal

abbrev pub invariant-loop-x : goal.invariant-loop-x
invariant-loop-x l = record {
  len : length l.items ≡ length l.initial.items;
  current : (x : ℕ) → x < length l.initial.items → current_at l.items x ≡ (if contains_item (take l.x-index l.x-items) x && (not (keeps l.end) && is_writer (locks_at l.locks.locks x) l.t.0) then committed_at l.initial.items x else current_at l.initial.items x);
  committed : (x : ℕ) → x < length l.initial.items → committed_at l.items x ≡ (if contains_item (take l.x-index l.x-items) x && (keeps l.end && is_writer (locks_at l.locks.locks x) l.t.0) then current_at l.initial.items x else committed_at l.initial.items x);
}
