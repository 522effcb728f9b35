-- If no byte is a line feed, the count of bytes before the first line feed is the length.
use Rattle.std.proofs.Common.{◌≡◌, ℕ, ◌≤◌, List, [], ◌∷◌, length, arith, nat_eq, nat_lt, None, ltb-false, position}
use Rattle.esr_grammar.specs.Lines.{line_len}
use Rattle.std.proofs.lemmas.Bool.{cases_Bool}
use Rattle.esr_grammar.proofs.Spaces.{chosen_none}

pub line_len-le : (bytes : List ℕ) → line_len bytes ≤ length bytes
line_len-le [] = omega arith
line_len-le (b ∷ bs) = grind (arith, cases_Bool (nat_eq b 10), nat_eq b 10, line_len-le bs)

pub none_is_length : (bytes : List ℕ) → position (λ b. nat_eq b 10) bytes ≡ None → length bytes ≡ line_len bytes
none_is_length bytes e = grind (arith, nat_lt (line_len bytes) (length bytes), chosen_none _ _ e, ltb-false, line_len-le bytes)
