-- The numbers that many runs have of a block or of a query, their maximum and their median.
use Rattle.std.specs.Prelude.{ℕ, ◌-◌, ◌/◌, List, [], ◌∷◌, Bool, Option, count_by, if◌then◌else◌, length, nat_le, nat_lt, option_map, slice_get, slice_index}
use Rattle.std.specs.List.{filter_map}
use Rattle.std.specs.Option.{option_flatten}
use Rattle.esr_explore.specs.declared.run_summary.QueryInconsistency.{QueryInconsistency}
use Rattle.esr_explore.specs.declared.run_summary.RunSummary.{RunSummary}
use Rattle.esr_explore.specs.declared.summary.Column.{Column}
use Rattle.esr_explore.specs.declared.summary.Column.TheVariants as column

-- the import and the distance of a query, by its index among those of the file, if it committed
abbrev pub inconsistency_at : ℕ → RunSummary → Option QueryInconsistency
inconsistency_at query run_summary = option_flatten (slice_get run_summary.inconsistencies.items query)

-- the number of a run in a column, if it has one
abbrev pub number_in : Column → RunSummary → Option ℕ
number_in (column.Blocked block) run_summary = slice_get run_summary.blocked_counts.items block
number_in (column.Import query) run_summary = option_map (λ o. o.import) (inconsistency_at query run_summary)
number_in (column.Distance query) run_summary = option_map (λ o. o.distance) (inconsistency_at query run_summary)

-- the numbers of the runs that have one
abbrev pub numbers_of : Column → List RunSummary → List ℕ
numbers_of c summaries = filter_map (number_in c) summaries

-- an ascending list with one more number, which is placed before the first that is not below it
abbrev pub placed : ℕ → List ℕ → List ℕ
placed n [] = n ∷ []
placed n (m ∷ ms) = if nat_le n m then n ∷ m ∷ ms else m ∷ placed n ms

-- the same numbers in ascending order
abbrev pub ascending : List ℕ → List ℕ
ascending [] = []
ascending (n ∷ ns) = placed n (ascending ns)

-- the number in the middle, the lower one of two, and 0 if the list is empty
abbrev pub median : List ℕ → ℕ
median ns = slice_index (ascending ns) ((length ns - 1) / 2)

-- whether a line of the block was given up
abbrev pub has_given_up : (block : ℕ) → RunSummary → Bool
has_given_up block run_summary = nat_lt 0 (slice_index run_summary.given_up_counts.items block)

-- in how many runs one was
abbrev pub runs_given_up : (block : ℕ) → List RunSummary → ℕ
runs_given_up block summaries = count_by (has_given_up block) summaries
