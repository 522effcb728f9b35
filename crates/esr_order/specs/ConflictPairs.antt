-- Operations of updates that conflict, and pairs of positions.
use Rattle.std.specs.Prelude.{◌≡◌, ◌<◌, ◌⊎◌, ℕ, Bool, not, ◌&&◌, ◌||◌, ◌==◌, List}
use Rattle.esr_history.specs.Serial.{any_ordered_pair}
use Rattle.esr_order.specs.UpdateOperations.{UpdateOperation}

-- whether two operations are of different updates, on one item, and at least one writes
abbrev pub operations_conflict : UpdateOperation → UpdateOperation → Bool
operations_conflict a b = not (a.update_index == b.update_index) && ((a.item == b.item) && (a.writes || b.writes))

-- whether an operation at position i precedes one at position j that conflicts with it
abbrev pub is_conflict_pair : List UpdateOperation → ℕ → ℕ → Bool
is_conflict_pair operations i j = any_ordered_pair (λ a b. (a.update_index == i) && ((b.update_index == j) && operations_conflict a b)) operations

-- lexicographic order of pairs
abbrev pub IsLexLess : ℕ × ℕ → ℕ × ℕ → Type 0
IsLexLess p r = (p.0 < r.0) ⊎ ((p.0 ≡ r.0) × (p.1 < r.1))
