-- The test of amounts against capacities, row by row.
use Rattle.std.specs.Prelude.{ℕ, List, [], ◌∷◌, Bool, true, false, ◌&&◌, nat_le}
use Rattle.esr_cert.specs.Problem.{Chain}

-- as many amounts as costs, each at most its cost
abbrev pub is_row_within : List ℕ → List ℕ → Bool
is_row_within [] [] = true
is_row_within [] (amount ∷ row) = false
is_row_within (cost ∷ costs) [] = false
is_row_within (cost ∷ costs) (amount ∷ row) = nat_le amount cost && is_row_within costs row

abbrev pub are_rows_within : List Chain → List (List ℕ) → Bool
are_rows_within [] [] = true
are_rows_within [] (row ∷ rows) = false
are_rows_within (chain ∷ chains) [] = false
are_rows_within (chain ∷ chains) (row ∷ rows) = is_row_within chain.costs row && are_rows_within chains rows
