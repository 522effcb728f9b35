use Rattle.std.proofs.Common.{◌≡◌, ◌++◌, flat_map, take}
use Rattle.esr_tables.specs.Csv.{named_line}
use Rattle.esr_tables.specs.Spans.{first_of, last_of}
use Rattle.esr_tables.proofs.csv.push_rows.Given as goal

-- the lines so far
abbrev pub invariant-loop-row : goal.invariant-loop-row
invariant-loop-row l =
    l.out.items ≡ l.initial.out.items ++ flat_map (named_line l.transactions (first_of l.spans) (last_of l.spans)) (take l.row-index l.rows)
