-- The members of a set of positions as an ascending list, the form in which a certificate has its set.
use Rattle.std.specs.Prelude.{ℕ, zero, suc, Bool, if◌then◌else◌, List, [], ◌∷◌, ◌++◌}

-- the members below n, ascending
abbrev pub members_below : (ℕ → Bool) → ℕ → List ℕ
members_below has zero = []
members_below has (suc n) = members_below has n ++ (if has n then n ∷ [] else [])
