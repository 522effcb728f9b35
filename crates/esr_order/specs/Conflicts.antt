-- Few pairs of positions by which operations are tied like by all their clashes: on each item an operation with the
-- next write, and a write with the reads until then.
use Rattle.std.specs.Prelude.{◌≡◌, ◌≢◌, ◌≤◌, ◌*◌, ◌==◌, ℕ, Bool, true, IsTrue, List, [], ◌∷◌, ◌++◌, All, Contains, filter, length, if◌then◌else◌, ⊤}
use Rattle.esr_order.specs.UpdateOperations.{UpdateOperation}
use Rattle.esr_order.specs.ConflictPairs.{is_conflict_pair}

-- the pair of two positions, none of a position with itself
abbrev pub pair_of : ℕ → ℕ → List (ℕ × ℕ)
pair_of i j = if i == j then [] else (i, j) ∷ []

-- those of a position with each of a list
abbrev pub pairs_from : ℕ → List ℕ → List (ℕ × ℕ)
pairs_from i [] = []
pairs_from i (j ∷ js) = pair_of i j ++ pairs_from i js

-- the operations on item x
abbrev pub on_item : ℕ → List UpdateOperation → List UpdateOperation
on_item x operations = filter (λ s. s.item == x) operations

-- S has, with the second of each pair, the first
abbrev pub IsDownward : (ℕ → Bool) → List (ℕ × ℕ) → Type 0
IsDownward S pairs = All (λ p. IsTrue (S p.1) → IsTrue (S p.0)) pairs

-- each two writes in a row, of two updates, are a pair
abbrev pub AreNextPaired : List (ℕ × ℕ) → List UpdateOperation → Type 0
AreNextPaired pairs [] = ⊤
AreNextPaired pairs (a ∷ []) = ⊤
AreNextPaired pairs (a ∷ b ∷ operations) =
    (a.update_index ≢ b.update_index → Contains pairs (a.update_index, b.update_index)) × AreNextPaired pairs (b ∷ operations)

-- The pairs are clashes of the operations, at most two for each, and a set that is closed by them is closed by all
-- clashes.
pub record AreConflicts (operations : List UpdateOperation) (pairs : List (ℕ × ℕ)) : Type 0 where
  pub sound : All (λ p. is_conflict_pair operations p.0 p.1 ≡ true) pairs
  pub closed : (S : ℕ → Bool) → IsDownward S pairs → (i j : ℕ) → is_conflict_pair operations i j ≡ true → IsTrue (S j)
      → IsTrue (S i)
  pub count_within_max : length pairs ≤ 2 * length operations
