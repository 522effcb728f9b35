use Rattle.std.proofs.Common.{◌≡◌, map}
use Rattle.std.specs.List.{range_with_len}
use Rattle.esr_items.specs.Weights.{weighted}
use Rattle.esr_tables.specs.Rows.{row_of}
use Rattle.esr_tables.proofs.rows.rows_of.Given as goal

-- the rows so far
abbrev pub invariant-loop-index : goal.invariant-loop-index
invariant-loop-index l = l.rows.items ≡ map (row_of weighted l.history.schedule) (range_with_len 1 l.index)
