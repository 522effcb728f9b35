use Rattle.std.proofs.Common.{◌≡◌, ℕ, ◌<◌, length, take}
use Rattle.esr_stream.specs.Reads.{list_at, values_of}
use Rattle.esr_stream.proofs.reads.values_by_item.Given as goal

abbrev pub invariant-loop-access : goal.invariant-loop-access
invariant-loop-access l = record {
  count : length l.values_read.items ≡ l.items;
  values : (x : ℕ) → x < l.items → list_at l.values_read.items x ≡ values_of (take l.access-index l.accesses) x;
}
