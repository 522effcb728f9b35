-- The values that a query read, in one list for each item, and their distances from a version of the item.
use Rattle.std.specs.Prelude.{ℕ, ℤ, List, [], Vec, map, slice_index_or, sum_by}
use Rattle.std.specs.declared.alloc.Global.{Global}

-- the list of item x, empty past the end
abbrev pub list_at : List (Vec ℤ Global) → ℕ → List ℤ
list_at lists x = slice_index_or (map (λ v. v.items) lists) x []

-- the sum of the distances of values of item x from a version
abbrev pub distance_sum : (ℕ → ℤ → ℤ → ℕ) → ℕ → List ℤ → ℤ → ℕ
distance_sum d x values version = sum_by (λ v. d x v version) values
