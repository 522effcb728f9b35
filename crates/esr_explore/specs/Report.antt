-- The text about many runs: how many they are, a line for each block, and one for each query.
use Rattle.std.specs.Prelude.{ℕ, List, [], ◌∷◌, ◌++◌, Option, Some, None, codes, decimal, flat_map, length}
use Rattle.std.specs.List.{enumerate_from, range_with_len}
use Rattle.esr_explore.specs.declared.run_summary.RunSummary.{RunSummary}
use Rattle.esr_explore.specs.declared.summary.Column.TheVariants.{Blocked, Import, Distance}
use Rattle.esr_explore.specs.Columns.{runs_given_up, median, numbers_of}
use Rattle.esr_explore.specs.Queries.{BegunQuery}
use Rattle.esr_explore.specs.Severity.{greatest}

-- a word and a number
abbrev pub count_text : List ℕ → ℕ → List ℕ
count_text word count = word ++ decimal count

-- a word, and the maximum and the median of numbers
abbrev pub max_and_median_text : List ℕ → List ℕ → List ℕ
max_and_median_text word numbers = word ++ count_text (codes " max ") (greatest numbers) ++ count_text (codes " median ") (median numbers)

-- the number of interleavings, if it is at most 10^18
abbrev pub total_text : Option ℕ → List ℕ
total_text (Some count) = count_text (codes " of ") count
total_text None = codes " of more than 1000000000000000000"

abbrev pub heading : (runs : ℕ) → (total : Option ℕ) → List ℕ
heading runs total = count_text (codes "interleavings ") runs ++ total_text total ++ codes "\n"

-- the number of times that the lines of a block were blocked, and the number of runs in which one was given up
abbrev pub block_line : List RunSummary → ℕ → List ℕ
block_line summaries block =
    count_text (codes "session ") block ++ max_and_median_text (codes " blocked") (numbers_of (Blocked block) summaries)
    ++ count_text (codes " gave up ") (runs_given_up block summaries) ++ codes "\n"

-- in how many runs a query committed, and its import and its distance in these; with its index among those of the file
abbrev pub query_line : List RunSummary → ℕ × BegunQuery → List ℕ
query_line summaries p =
    codes "query " ++ p.1.name ++ count_text (codes " committed ") (length (numbers_of (Import p.0) summaries))
    ++ max_and_median_text (codes " import") (numbers_of (Import p.0) summaries)
    ++ max_and_median_text (codes " distance") (numbers_of (Distance p.0) summaries) ++ codes "\n"

-- the whole
abbrev pub report_text : (total : Option ℕ) → (blocks : ℕ) → List BegunQuery → List RunSummary → List ℕ
report_text total blocks queries summaries =
    heading (length summaries) total ++ flat_map (block_line summaries) (range_with_len 0 blocks)
    ++ flat_map (query_line summaries) (enumerate_from 0 queries)
