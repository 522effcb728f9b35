-- Compressed lists of transactions.
use Rattle.std.specs.Prelude.{ℕ, ◌-◌, List, map, flat_map}
use Rattle.std.specs.List.{range_with_len}
use Rattle.esr_audit.specs.declared.ranges.TxnRange.{TxnRange}
use Rattle.esr_audit.specs.declared.ranges.TxnList.{TxnList}
use Rattle.esr_audit.specs.declared.ranges.TxnList.TheVariants.{Each, Ranges}

-- the numbers from the first up to the end, without the end
abbrev pub numbers_in : TxnRange → List ℕ
numbers_in s = range_with_len s.first (s.end - s.first)

-- the numbers of the transactions, in order
abbrev pub listed : TxnList → List ℕ
listed (Each txns) = map (λ t. t.0) txns.items
listed (Ranges ranges) = flat_map numbers_in ranges.items
