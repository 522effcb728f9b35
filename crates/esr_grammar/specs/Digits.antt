-- The value of a number of up to eight digits, from the eight bytes that end with it.
use Rattle.std.specs.Prelude.{ℕ, zero, suc, ◌+◌, ◌*◌, ◌^◌, ◌%◌, List, [], ◌∷◌, length}

-- the digits, with 0 in place of the bytes before the number
abbrev pub padded : ℕ → List ℕ → List ℕ
padded before [] = []
padded zero (x ∷ xs) = ((x + 208) % 256) ∷ padded zero xs
padded (suc before) (x ∷ xs) = 0 ∷ padded before xs

-- the value of digits
abbrev pub worth : List ℕ → ℕ
worth [] = 0
worth (x ∷ xs) = x * 10 ^ length xs + worth xs
