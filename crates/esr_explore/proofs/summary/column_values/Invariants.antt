use Rattle.std.proofs.Common.{◌≡◌, take}
use Rattle.esr_explore.specs.Columns.{numbers_of}
use Rattle.esr_explore.proofs.summary.column_values.Given as goal

-- the numbers of the runs so far are listed
abbrev pub invariant-loop-run_summary : goal.invariant-loop-run_summary
invariant-loop-run_summary l = l.numbers.items ≡ numbers_of l.column (take l.run_summary-index l.summaries)
