-- The problem that represents a committed query of a history, which an audit solves.
use Rattle.std.specs.Prelude.{◌≡◌, ◌↔◌, ℕ, ℤ, suc, Bool, true, false, ◌&&◌, ◌==◌, List, length, filter, map, take, sum_by, slice_get, All, Some, None, if◌then◌else◌}
use Rattle.std.specs.List.{list_any, range_with_len}
use Rattle.esr_history.specs.Machine.{DistanceFunction, Schedule, value_distance}
use Rattle.esr_history.specs.Serial.{state}
use Rattle.esr_history.specs.Queries.{updates_committed_before, must, reads_by}
use Rattle.esr_order.specs.Placements.{is_among, IsClosed}
use Rattle.esr_order.specs.Relevant.{has_written}
use Rattle.esr_cert.specs.Problem.{Chain, Problem, is_closed}

-- the positions of the transactions in a list that pass a test: as a test of positions, and as a list
abbrev pub passes_at : List ℕ → (ℕ → Bool) → ℕ → Bool
passes_at us S i = elim (slice_get us i) [ Some u ↦ S u | None ↦ false ]

abbrev pub places : List ℕ → (ℕ → Bool) → List ℕ
places us S = filter (passes_at us S) (range_with_len 0 (length us))

-- the items that q read, ascending
abbrev pub items_read : Schedule → ℕ → List ℕ
items_read h q = filter (λ x. list_any (λ o. o.item == x) (reads_by h q)) (range_with_len 0 (length h.opening))

-- the updates of q that wrote item x, in commit order
abbrev pub writers_of : Schedule → ℕ → ℕ → List ℕ
writers_of h q x = filter (has_written h x) (updates_committed_before h q)

-- the sum of the distances between a value and the values that q read of item x
abbrev pub read_distance : DistanceFunction → Schedule → ℕ → ℕ → ℤ → ℕ
read_distance d h q x v = sum_by (λ o. if o.item == x then value_distance d h x o.value v else 0) (reads_by h q)

-- the cost of version j of item x, which is the value that its first j writers leave
abbrev pub version_cost : DistanceFunction → Schedule → ℕ → ℕ → ℕ → ℕ
version_cost d h q x j = read_distance d h q x (state h (take j (writers_of h q x)) x)

-- the chain of item x, with the writers by their positions in us
abbrev pub chain_for : DistanceFunction → Schedule → ℕ → List ℕ → ℕ → Chain
chain_for d h q us x = record {
  item = x;
  writers = places us (has_written h x);
  costs = map (version_cost d h q x) (range_with_len 0 (suc (length (writers_of h q x))));
}

-- The problem represents query q: its updates are some of the query's, in commit order, with all writers of the items
-- that q read; its chains are those of these items; and it has the same closed sets among its updates.
pub record IsProblemOf (d : DistanceFunction) (h : Schedule) (q : ℕ) (p : Problem) : Type 0 where
  pub updates : p.updates ≡ filter (is_among p.updates) (updates_committed_before h q)
  pub writers : All (λ x. filter (has_written h x) p.updates ≡ writers_of h q x) (items_read h q)
  pub must : p.must ≡ places p.updates (is_among (must h q))
  pub chains : p.chains ≡ map (chain_for d h q p.updates) (items_read h q)
  pub closed : (S : ℕ → Bool)
      → (is_closed p (passes_at p.updates S) ≡ true) ↔ IsClosed h q (λ u. is_among p.updates u && S u)
