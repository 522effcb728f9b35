-- The result of a search through many orders: the summary of the run of each.
use Rattle.std.specs.Prelude.{◌≡◌, ℕ, ℤ, List, [], ◌∷◌, Option, Some, None, All, length, map, sum}
use Rattle.esr_plan.specs.declared.call.Call.{Call}
use Rattle.esr_explore.specs.Orders.{IsOrder, first_turns}
use Rattle.esr_explore.specs.declared.query.Query.{Query}
use Rattle.esr_explore.specs.declared.run_summary.RunSummary.{RunSummary}
use Rattle.esr_explore.specs.declared.ways.Ways.{Ways}
use Rattle.esr_explore.specs.declared.ways.Ways.TheVariants as ways
use Rattle.esr_explore.specs.Summaries.{IsSummary}

-- the number of lines in each block
abbrev pub line_counts : List (List Call) → List ℕ
line_counts blocks = map length blocks

-- all orders in which the blocks may take their turns
abbrev pub all_orders : List (List Call) → List (List ℕ)
all_orders blocks = first_turns (line_counts blocks) (sum (line_counts blocks))

-- the orders of a search over a list of them
abbrev pub orders_of : Ways → Option (List (List ℕ))
orders_of (ways.All orders) = Some (map (λ o. o.items) orders.items)
orders_of (ways.Drawn seeds) = None

-- the number of orders that a search draws
abbrev pub drawn_of : Ways → Option ℕ
drawn_of (ways.All orders) = None
drawn_of (ways.Drawn seeds) = Some seeds

-- a summary for each order, of a run with it: none is skipped, and none occurs twice
abbrev pub AreRunSummaries : List ℤ → List ℕ → List (List Call) → List Query → List (List ℕ) → List RunSummary → Type 0
AreRunSummaries opening weights blocks queries [] [] = Unit {0}
AreRunSummaries opening weights blocks queries (order ∷ orders) (run_summary ∷ summaries) =
    IsSummary opening weights blocks queries order run_summary × AreRunSummaries opening weights blocks queries orders summaries
AreRunSummaries opening weights blocks queries _ _ = ⊥

-- n summaries, each of a run with an order in which each block occurs as often as it has lines
pub record AreDrawn (opening : List ℤ) (weights : List ℕ) (blocks : List (List Call)) (queries : List Query) (counts : List ℕ)
    (many : ℕ) (summaries : List RunSummary) : Type 0 where
  pub orders : List (List ℕ)
  pub number : length orders ≡ many
  pub drawn : All (IsOrder counts (sum counts)) orders
  pub inconsistencies : AreRunSummaries opening weights blocks queries orders summaries
