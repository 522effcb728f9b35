-- The bytes that end a name, as the bits of a mask, and the letter that begins it.
use Rattle.std.specs.Prelude.{◌≡◌, ℕ, ◌≤◌, List, [], ◌∷◌, Bool, false, not, map, length, take}
use Rattle.std.specs.Simd.Lanes.{mask_l}
use Rattle.esr_grammar.specs.Command.{is_letter, is_name_byte}

-- a byte that is not permitted in a name
abbrev pub is_stop : ℕ → Bool
is_stop b = not (is_name_byte b)

-- the mask has a bit for each of the first bytes, of which there are up to 16
abbrev pub AreStops : List ℕ → ℕ → Type 0
AreStops bytes stops = (count : ℕ) × (count ≤ 16) × (count ≤ length bytes) × (stops ≡ mask_l (map is_stop (take count bytes)))

abbrev pub starts_with_letter : List ℕ → Bool
starts_with_letter [] = false
starts_with_letter (b ∷ bs) = is_letter b
