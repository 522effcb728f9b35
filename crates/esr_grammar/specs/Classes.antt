-- A table of the bytes that a name may contain.
use Rattle.std.specs.Prelude.{ℕ, suc, List, [], ◌∷◌, Bool, true, not, ◌&&◌, cond}
use Rattle.esr_grammar.specs.Command.{is_name_byte}

-- the list classifies each byte from this one on
abbrev pub classifies : ℕ → List Bool → Bool
classifies byte [] = true
classifies byte (x ∷ xs) = cond x (is_name_byte byte) (not (is_name_byte byte)) && classifies (suc byte) xs
