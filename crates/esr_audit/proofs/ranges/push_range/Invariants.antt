use Rattle.std.proofs.Common.{◌≡◌, ◌≤◌, ◌-◌, ◌++◌, map}
use Rattle.std.specs.List.{range_with_len}
use Rattle.esr_audit.proofs.ranges.push_range.Given as goal

-- the numbers so far, and no more than there are
abbrev pub invariant-loop-number : goal.invariant-loop-number
invariant-loop-number l = record {
  so_far : map (λ t. t.0) l.txns.items ≡ map (λ t. t.0) l.fn.txns.items ++ range_with_len l.fn.range.first (l.number - l.fn.range.first);
  within : l.number - l.fn.range.first ≤ l.fn.range.end - l.fn.range.first;
}
