-- Worked examples: the queries that small sessions begin, which of several worst runs is taken, medians, the lines that a
-- session gave up, and lines of the output. The definitions call a session a block.
use Rattle.std.specs.Prelude.{◌≡◌, ℕ, List, [], ◌∷◌, ◌++◌, Some, None, codes, map, refl}
use Rattle.std.specs.Fmt.{digits}
use Rattle.std.proofs.Common.{Bor}
use Rattle.esr_history.specs.declared.event.Refusal.TheVariants.{BlockedByLock, NoSuchItem}
use Rattle.esr_history.specs.declared.event.Reply.TheVariants.{Begun, Refused}
use Rattle.esr_history.specs.WorkedExamples.{txn}
use Rattle.esr_plan.specs.declared.call.Call.TheVariants as call
use Rattle.esr_history.specs.declared.event.TxnKind.TheVariants as kind
use Rattle.esr_explore.specs.declared.measure.Measure.TheVariants.{Import}
use Rattle.esr_explore.specs.Columns.{median}
use Rattle.esr_explore.specs.Queries.{all_queries, begun_at}
use Rattle.esr_explore.specs.Report.{heading, max_and_median_text}
use Rattle.esr_explore.specs.Severity.{amount_of, first_greatest}
use Rattle.esr_explore.specs.Summaries.{given_up_in}

-- a borrowed text with these bytes; its address does not matter
abbrev borrowed : List ℕ → Bor (List ℕ)
borrowed bytes = record { ref_ptr = (0, 0); now = bytes }

-- Three sessions: one has only an update, the last line of one begins a query, and one begins two. `begun_at b k name` is line k
-- of session b.
queries_found :
    all_queries (
    (call.Begin (borrowed (codes "u")) kind.Update 9 ∷ call.Commit (record { name = borrowed (codes "u"); begin = Some 0 }) ∷ [])
    ∷ (call.Abort (record { name = borrowed (codes "v"); begin = None }) ∷ call.Begin (borrowed (codes "q")) kind.Query 5 ∷ [])
    ∷ (call.Begin (borrowed (codes "r")) kind.StrictQuery 0 ∷ call.Begin (borrowed (codes "s")) kind.Query 7 ∷ []) ∷ [])
    ≡ begun_at 1 1 (codes "q") ∷ begun_at 2 0 (codes "r") ∷ begun_at 2 1 (codes "s") ∷ []
queries_found = refl

-- the first of two worst runs
worst_found : first_greatest (3 ∷ 7 ∷ 2 ∷ 7 ∷ []) ≡ 1
worst_found = refl

-- if all are equal, the first
first_of_equals : first_greatest (0 ∷ 0 ∷ []) ≡ 0
first_of_equals = refl

-- a query that did not commit counts as 0
uncommitted_counts_as_0 : map (amount_of Import) (Some (record { import = 4; distance = 1 }) ∷ None ∷ []) ≡ 4 ∷ 0 ∷ []
uncommitted_counts_as_0 = refl

-- the lower of the two middle values
median_of_four : median (5 ∷ 1 ∷ 9 ∷ 3 ∷ []) ≡ 3
median_of_four = refl

median_of_three : median (8 ∷ 8 ∷ 2 ∷ []) ≡ 8
median_of_three = refl

-- a session of three lines, with the final reply to each: the line that was still blocked at its last try was given up, the one
-- that was refused for another reason was not
lines_given_up : given_up_in (record {
  replies = Begun (txn 1) ∷ Refused (BlockedByLock (txn 2)) ∷ Refused NoSuchItem ∷ [];
  tries = 0;
  blocked = 100;
}) ≡ 1
lines_given_up = refl

heading_with_total : heading 20 (Some 61108047000) ≡ codes "interleavings 20 of 61108047000\n"
unfolding digits
heading_with_total = refl

-- more interleavings than 10^18 are not counted
heading_with_huge_total : heading 7 None ≡ codes "interleavings 7 of more than 1000000000000000000\n"
unfolding digits
heading_with_huge_total = refl

max_and_median_of_four : max_and_median_text (codes " blocked") (5 ∷ 1 ∷ 9 ∷ 3 ∷ []) ≡ codes " blocked max 9 median 3"
unfolding digits
max_and_median_of_four = refl
