-- Ordered numbers: the smallest of some, and lists whose elements have ascending numbers.
use Rattle.std.specs.Prelude.{◌≡◌, ℕ, ◌<◌, ◌≤◌, Bool, true, false, Option, MatchOption, List, [], ◌∷◌, length, ◌==◌, nat_lt, if◌then◌else◌, slice_index_or, ⊤}
use Rattle.std.specs.List.{AllByRecursion}

-- the smallest number that passes the test, if one does
abbrev pub IsSmallest : (ℕ → Bool) → Option ℕ → Type 0
IsSmallest p r = MatchOption r ((u : ℕ) → p u ≡ false) (λ u. (p u ≡ true) × ((v : ℕ) → v < u → p v ≡ false))

-- each number is below those after it, so none occurs twice
abbrev pub IsAscendingBy : {X : Type 0} → (X → ℕ) → List X → Type 0
IsAscendingBy key [] = ⊤
IsAscendingBy key (x ∷ xs) = AllByRecursion (λ y. key x < key y) xs × IsAscendingBy key xs

-- the list with the element of number t changed, or a new one inserted in order
abbrev pub upserted : {X : Type 0} → (X → ℕ) → ℕ → X → (X → X) → List X → List X
upserted key t new change [] = new ∷ []
upserted key t new change (x ∷ xs) =
    if key x == t then change x ∷ xs else (if nat_lt t (key x) then new ∷ x ∷ xs else x ∷ upserted key t new change xs)

-- the element at place i has number t
pub record IsPlaceOf {X : Type 0} (key : X → ℕ) (xs : List X) (t i : ℕ) : Type 0 where
  pub in_range : i < length xs
  pub has_number : (d : X) → key (slice_index_or xs i d) ≡ t

-- no element has number t, and one would go at place i
pub record IsGapFor {X : Type 0} (key : X → ℕ) (xs : List X) (t i : ℕ) : Type 0 where
  pub in_range : i ≤ length xs
  pub smaller_before : (j : ℕ) (d : X) → j < i → key (slice_index_or xs j d) < t
  pub greater_after : (j : ℕ) (d : X) → i ≤ j → j < length xs → t < key (slice_index_or xs j d)
