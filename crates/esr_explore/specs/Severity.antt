-- The severity of a run by a measure, and the worst of many runs.
use Rattle.std.specs.Prelude.{ℕ, ◌==◌, List, [], ◌∷◌, Option, Some, map, max, sum}
use Rattle.std.specs.List.{position_or_len}
use Rattle.esr_explore.specs.declared.measure.Measure.{Measure}
use Rattle.esr_explore.specs.declared.measure.Measure.TheVariants.{Import, Distance, Blocked}
use Rattle.esr_explore.specs.declared.run_summary.QueryInconsistency.{QueryInconsistency}
use Rattle.esr_explore.specs.declared.run_summary.RunSummary.{RunSummary}
use Rattle.esr_explore.specs.Turns.{saturated_u64}

-- the maximum of a list of numbers, and 0 if it is empty
abbrev pub greatest : List ℕ → ℕ
greatest [] = 0
greatest (n ∷ numbers) = max n (greatest numbers)

-- the import or the distance of a query, and 0 if it did not commit
abbrev pub amount_of : Measure → Option QueryInconsistency → ℕ
amount_of Import (Some inconsistency) = inconsistency.import
amount_of Distance (Some inconsistency) = inconsistency.distance
amount_of _ _ = 0

-- the maximum over the queries; by blocked lines, the sum over the blocks
abbrev pub severity_of : Measure → RunSummary → ℕ
severity_of Import run_summary = greatest (map (amount_of Import) run_summary.inconsistencies.items)
severity_of Distance run_summary = greatest (map (amount_of Distance) run_summary.inconsistencies.items)
severity_of Blocked run_summary = saturated_u64 (sum run_summary.blocked_counts.items)

-- the position, from 0, of the first occurrence of the maximum; 0 if the list is empty
abbrev pub first_greatest : List ℕ → ℕ
first_greatest numbers = position_or_len (λ n. n == greatest numbers) numbers

-- the position of the first run whose severity is the maximum over the runs
abbrev pub worst_run : Measure → List RunSummary → ℕ
worst_run measure summaries = first_greatest (map (severity_of measure) summaries)
