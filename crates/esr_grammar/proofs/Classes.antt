-- The class of each byte in a table.
use Rattle.std.proofs.Common.{◌≡◌, ℕ, zero, suc, ◌+◌, ◌<◌, List, [], ◌∷◌, Bool, true, false, not, cond, length, get_or, refl, ◌∙◌, ap, arith}
use Rattle.std.proofs.lemmas.Bool.{and_parts}
use Rattle.esr_grammar.specs.Command.{is_name_byte}
use Rattle.esr_grammar.specs.Classes.{classifies}

agrees : (x v : Bool) → cond x v (not v) ≡ true → x ≡ v
agrees true true e = refl
agrees true false e = cc
agrees false true e = cc
agrees false false e = refl

pub described : (byte : ℕ) (xs : List Bool) (k : ℕ) → classifies byte xs ≡ true → k < length xs → get_or xs k false ≡ is_name_byte (k + byte)
described byte [] k e l = absurd (omega (arith, l))
described byte (x ∷ xs) zero e l =
    let same : byte ≡ 0 + byte = omega arith in
    agrees x (is_name_byte byte) (and_parts _ _ e).0 ∙ ap is_name_byte same
described byte (x ∷ xs) (suc k) e l =
    let same : k + suc byte ≡ suc k + byte = omega arith in
    described (suc byte) xs k (and_parts _ _ e).1 (omega (arith, l)) ∙ ap is_name_byte same
