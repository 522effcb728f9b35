-- How bytes are cut into lines.
use Rattle.std.specs.Prelude.{◌≡◌, ℕ, ◌<◌, ◌≤◌, List, [], ◌∷◌, ◌==◌, cond, length, nat_eq}
use Rattle.std.specs.List.{onto_first, position_or_len}
use Rattle.esr_grammar.specs.declared.next.Next.{Next}
use Rattle.esr_grammar.specs.declared.next.Next.TheVariants as next
use Rattle.esr_grammar.specs.declared.limits.TheConstants.{MAX_LINE_BYTES}

-- the lines of the bytes, each without its line feed; the last may lack one, and after a last line feed there is no
-- line
abbrev pub lines : List ℕ → List (List ℕ)
lines [] = []
lines (b ∷ bs) = cond (b == 10) ([] ∷ lines bs) (onto_first b (lines bs))

-- prepends b to the first line; b is dropped if no line follows
abbrev pub onto_first_whole : ℕ → List (List ℕ) → List (List ℕ)
onto_first_whole b [] = []
onto_first_whole b (l ∷ ls) = (b ∷ l) ∷ ls

-- the lines that are ended by a line feed
abbrev pub whole_lines : List ℕ → List (List ℕ)
whole_lines [] = []
whole_lines (b ∷ bs) = cond (b == 10) ([] ∷ whole_lines bs) (onto_first_whole b (whole_lines bs))

-- the number of bytes before the first line feed
abbrev pub line_len : List ℕ → ℕ
line_len bytes = position_or_len (λ b. nat_eq b 10) bytes

-- the next line in the buffered bytes
abbrev pub IsNext : Next → List ℕ → Type 0
IsNext (next.Line n) bytes = (n ≡ line_len bytes) × (n < length bytes) × (n ≤ MAX_LINE_BYTES)
IsNext next.TooLong bytes = MAX_LINE_BYTES < line_len bytes
IsNext next.More bytes = (line_len bytes ≡ length bytes) × (length bytes ≤ MAX_LINE_BYTES)
