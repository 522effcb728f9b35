use Rattle.std.proofs.Common.{◌≡◌, ◌≤◌, length, take, map, vec_capacity}
use Rattle.esr_locks.specs.LockEntries.{query_and_count}
use Rattle.esr_core.specs.States.{charges_to}
use Rattle.esr_core.proofs.state.charge_each.Given as goal

abbrev pub invariant-loop-r : goal.invariant-loop-r
invariant-loop-r l = record {
  items : l.charges.items ≡ charges_to l.amount (map query_and_count (take l.r-index l.reads));
  count : length l.charges.items ≡ l.r-index;
  capacity : length l.reads ≤ vec_capacity l.charges;
}
