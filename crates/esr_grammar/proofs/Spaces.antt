-- Words between blanks, and names.
use Rattle.std.proofs.Common.{◌≡◌, ℕ, suc, ◌+◌, ◌-◌, ◌<◌, ◌≤◌, List, [], ◌∷◌, inl, inr, Bool, true, false, cond, length, take, drop, refl, ◌∙◌, ap, arith, nat_eq, nat_le, Some, None, ltb-false, ltb-true, length-drop, IsUtf8, get_or, zero, eqb-true, leb-true}
use Rattle.std.proofs.Math.Seq.{take-length}
use Rattle.std.proofs.lemmas.List.Splits.{slice_split_first}
use Rattle.std.proofs.lemmas.Str.{IsUtf8-from_ascii}
use Rattle.std.proofs.lemmas.Bool.{cases_Bool, or_cases, and_parts}
use Rattle.std.proofs.lemmas.Option.{cond_some}
use Rattle.std.specs.List.{position, position_or_len, onto_first, list_all}
use Rattle.esr_grammar.proofs.Bytes.{name_bytes}
use Rattle.esr_grammar.specs.Command.{is_letter, is_name_byte, is_name, is_between, words_of, is_space, one_of, totals_command}

pub chosen_none : (v : Bool) (n : ℕ) → cond v (Some n) None ≡ None → v ≡ false
chosen_none true n e = cc
chosen_none false n e = refl

one_word : (bytes : List ℕ) → length bytes ≤ position_or_len is_space bytes → words_of bytes ≡ bytes ∷ []
one_word [] h = refl
one_word (b ∷ bs) h = elim (cases_Bool (nat_eq b 32)) [
  | inl e ↦ let none : position_or_len is_space (b ∷ bs) ≡ 0 = rw e refl in absurd (omega (arith, h, none))
  | inr e ↦
      let more : position_or_len is_space (b ∷ bs) ≡ 1 + position_or_len is_space bs = rw e refl in
      let other : words_of (b ∷ bs) ≡ onto_first b (words_of bs) = rw e refl in
      other ∙ ap (onto_first b) (one_word bs (omega (arith, h, more)))
]

pub no_space : (bytes : List ℕ) → position is_space bytes ≡ None → words_of bytes ≡ bytes ∷ []
no_space bytes e = one_word bytes (ltb-false _ _ (chosen_none _ _ e))

pub at_space : (bytes : List ℕ) (place : ℕ) → position is_space bytes ≡ Some place
    → words_of bytes ≡ take place bytes ∷ words_of (take (length bytes - (place + 1)) (drop (place + 1) bytes))
at_space bytes place e =
    grind (arith, cond_some _ _ _ e, length-drop (place + 1) bytes, take-length (drop (place + 1) bytes), slice_split_first, ltb-true)

-- ---- text

between_small : (low high b : ℕ) → high < 128 → is_between low high b ≡ true → b < 128
between_small low high b h e = omega (arith, h, leb-true b high (and_parts (nat_le low b) (nat_le b high) e).1)

letter_small : (b : ℕ) → is_letter b ≡ true → b < 128
letter_small b e = elim (or_cases _ _ e) [ inl l ↦ between_small 97 122 b (omega arith) l | inr l ↦ between_small 65 90 b (omega arith) l ]

name_byte_small : (b : ℕ) → is_name_byte b ≡ true → b < 128
name_byte_small b e = elim (or_cases _ _ e) [
  | inl l ↦ letter_small b l
  | inr r ↦ elim (or_cases _ _ r) [ inl l ↦ between_small 48 57 b (omega arith) l | inr l ↦ omega (arith, eqb-true b 95 l) ]
]

all_small : (bs : List ℕ) → list_all is_name_byte bs ≡ true → (i : ℕ) → get_or bs i 0 < 128
all_small [] e i = omega arith
all_small (b ∷ bs) e zero = name_byte_small b (and_parts _ _ e).0
all_small (b ∷ bs) e (suc i) = all_small bs (and_parts _ _ e).1 i

pub name_utf8 : (word : List ℕ) → is_name word ≡ true → IsUtf8 word
name_utf8 word e = IsUtf8-from_ascii word (all_small word (name_bytes word e))

-- ---- how many words

some_word : (bytes : List ℕ) → (w : List ℕ) × (ws : List (List ℕ)) × (words_of bytes ≡ w ∷ ws)
some_word [] = ([], [], refl)
some_word (b ∷ bs) = elim (cases_Bool (nat_eq b 32)) [
  | inl e ↦ let is : words_of (b ∷ bs) ≡ [] ∷ words_of bs = rw e refl in ([], words_of bs, is)
  | inr e ↦
      let more = some_word bs in
      let is : words_of (b ∷ bs) ≡ onto_first b (words_of bs) = rw e refl in
      (b ∷ more.0, more.1, is ∙ ap (onto_first b) more.2)
]

-- after a blank there is another word
pub one_of_more : (w rest : List ℕ) → None ≡ one_of (w ∷ words_of rest)
one_of_more w rest = rw (some_word rest).2 refl

pub no_totals : (rest : List ℕ) → None ≡ totals_command (words_of rest)
no_totals rest = rw (some_word rest).2 refl
