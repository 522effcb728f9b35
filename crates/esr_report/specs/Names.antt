-- A table of names, as the list of them in the order in which they were bound.
use Rattle.std.specs.Prelude.{ℕ, List, [], ◌∷◌, Bool, true, not, ◌&&◌, Option, is_some, slice_index_or, ◌-◌, bytes_eq}
use Rattle.std.specs.List.{position, list_any}

-- the position of a name, if it is bound
abbrev pub position_of : List (List ℕ) → List ℕ → Option ℕ
position_of names name = position (bytes_eq name) names

abbrev pub is_bound : List (List ℕ) → List ℕ → Bool
is_bound names name = is_some (position_of names name)

-- no name is bound twice
abbrev pub all_distinct : List (List ℕ) → Bool
all_distinct [] = true
all_distinct (name ∷ names) = not (list_any (bytes_eq name) names) && all_distinct names

-- the name of a transaction, whose number is one more than its name's position
abbrev pub name_of_transaction : List (List ℕ) → ℕ → List ℕ
name_of_transaction names number = slice_index_or names (number - 1) []
