use Rattle.std.proofs.Common.{◌≡◌, ℕ, ◌<◌, length, take}
use Rattle.esr_audit.specs.Reads.{list_at, values_of}
use Rattle.esr_audit.proofs.chains.values_by_item.Given as goal

abbrev pub invariant-loop-read : goal.invariant-loop-read
invariant-loop-read l = record {
  count : length l.lists.items ≡ l.items;
  values : (x : ℕ) → x < l.items → list_at l.lists.items x ≡ values_of (take l.read-index l.reads) x;
}
