-- The orders in which blocks take their turns, as lists of block numbers.
use Rattle.std.specs.Prelude.{◌≡◌, ◌<◌, ◌≤◌, ℕ, zero, suc, ◌==◌, List, [], ◌∷◌, ◌++◌, cond, length, flat_map, count_by, nat_lt, slice_index_or}
use Rattle.std.specs.List.{range_with_len}

-- the number of a block's turns in an order
abbrev pub turns_of : ℕ → List ℕ → ℕ
turns_of block order = count_by (λ b. b == block) order

-- the number of lines in a block
abbrev pub lines_of : List ℕ → ℕ → ℕ
lines_of counts block = slice_index_or counts block 0

-- n turns, of which each block has as many as it has lines
abbrev pub IsOrder : List ℕ → ℕ → List ℕ → Type 0
IsOrder counts turns order =
    (length order ≡ turns) × ((block : ℕ) → turns_of block order ≡ lines_of counts block)

-- the order with one more turn of a block, if the block has a line left
abbrev pub longer_by : List ℕ → List ℕ → ℕ → List (List ℕ)
longer_by counts order block =
    cond (nat_lt (turns_of block order) (lines_of counts block)) ((order ++ block ∷ []) ∷ []) []

-- longer orders, by each block
abbrev pub longer : List ℕ → List ℕ → List (List ℕ)
longer counts order = flat_map (longer_by counts order) (range_with_len 0 (length counts))

-- the possible lists of the first n turns
abbrev pub first_turns : List ℕ → ℕ → List (List ℕ)
first_turns counts zero = [] ∷ []
first_turns counts (suc turns) = flat_map (longer counts) (first_turns counts turns)

-- after some number of turns there are more beginnings than a bound
abbrev pub AreMoreThan : List ℕ → ℕ → ℕ → Type 0
AreMoreThan counts turns upper_bound = (k : ℕ) × (k ≤ turns) × (upper_bound < length (first_turns counts k))
