-- A committed query that is audited, as clauses see it.
use Rattle.std.specs.Prelude.{◌≡◌, ◌<◌, ℕ, ℤ, List, Vec, length}
use Rattle.std.specs.declared.alloc.Global.{Global}
use Rattle.esr_history.specs.Machine.{DistanceFunction, Schedule}
use Rattle.esr_history.specs.Queries.{updates_committed_before}
use Rattle.esr_order.specs.Scans.{accesses_in}
use Rattle.esr_stream.specs.Reads.{AreReadsInRange, list_at, offset_cost, values_of}

-- the history, the query, and the values that it read, by item
pub record QueryView : Type 0 where
  pub schedule : Schedule
  pub query : ℕ
  pub values_read : List (Vec ℤ Global)

-- the updates that committed before the query
abbrev pub updates_of : QueryView → List ℕ
updates_of a = updates_committed_before a.schedule a.query

-- the cost of a version of an item, plus the offset
abbrev pub cost_in : DistanceFunction → QueryView → ℕ → ℤ → ℕ
cost_in d a = offset_cost (d a.schedule.weights) a.values_read

-- these are the values that q read, by item
pub record AreValuesRead (h : Schedule) (q : ℕ) (values_read : List (Vec ℤ Global)) : Type 0 where
  pub count : length values_read ≡ length h.opening
  pub values : (x : ℕ) → x < length h.opening → list_at values_read x ≡ values_of (accesses_in h.entries q) x
  pub in_range : AreReadsInRange values_read
