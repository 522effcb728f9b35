use Rattle.std.proofs.Common.{◌≡◌, map}
use Rattle.std.specs.List.{range_with_len}
use Rattle.esr_locks.specs.Tables.{no_locks}
use Rattle.esr_locks.proofs.table.empty_entries.Given as goal

abbrev pub invariant-loop-x : goal.invariant-loop-x
invariant-loop-x l = map (λ r. r.locks) l.entries.items ≡ map (λ x. no_locks) (range_with_len 0 l.x)
