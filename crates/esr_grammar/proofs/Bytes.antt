-- The bytes of names and numbers: none of them separates words or lines.
use Rattle.std.proofs.Common.{◌≡◌, ℕ, suc, ◌<◌, ◌^◌, ℤ, pos, negsuc, nat_abs, List, [], ◌∷◌, Bool, true, false, not, ◌&&◌, ◌||◌, length, inl, inr, refl, sym, ◌∙◌, ap, arith, nat_eq, nat_le, decimal, eqb-true}
use Rattle.std.specs.List.{list_all}
use Rattle.std.specs.Str.{all_ascii_digits}
use Rattle.std.specs.Char.{is_ascii_digit}
use Rattle.std.specs.Fmt.{signed_decimal}
use Rattle.std.proofs.lemmas.Bool.{true≢false, and_parts, cases_Bool, not_from_false}
use Rattle.esr_grammar.specs.Command.{is_between, is_letter, is_name_byte, IsName}
use Rattle.esr_grammar.proofs.Laws.{all_digits}

or_right : (a c : Bool) → c ≡ true → (a || c) ≡ true
or_right true c h = refl
or_right false c h = h

or_left : (a c : Bool) → a ≡ true → (a || c) ≡ true
or_left true c h = refl
or_left false c h = absurd (true≢false (sym h))

letter_byte : (b : ℕ) → is_letter b ≡ true → is_name_byte b ≡ true
letter_byte b is = or_left (is_letter b) (is_between 48 57 b || nat_eq b 95) is

digit_byte : (b : ℕ) → is_ascii_digit b ≡ true → is_name_byte b ≡ true
digit_byte b is = or_right (is_letter b) (is_between 48 57 b || nat_eq b 95) (or_left (is_between 48 57 b) (nat_eq b 95) is)

pub name_bytes : (name : List ℕ) → IsName name → list_all is_name_byte name ≡ true
name_bytes [] h = refl
name_bytes (b ∷ bs) h =
    let parts = and_parts (is_letter b) (nat_le (length bs) 15 && list_all is_name_byte bs) h in
    let more = and_parts (nat_le (length bs) 15) (list_all is_name_byte bs) parts.1 in
    rw (letter_byte b parts.0, more.1) refl

pub digit_bytes : (bs : List ℕ) → all_ascii_digits bs ≡ true → list_all is_name_byte bs ≡ true
digit_bytes [] h = refl
digit_bytes (b ∷ bs) h =
    let parts = and_parts (is_ascii_digit b) (all_ascii_digits bs) h in
    rw (digit_byte b parts.0, digit_bytes bs parts.1) refl

-- whether a byte is absent from these bytes
abbrev pub lacks : ℕ → List ℕ → Bool
lacks s bs = list_all (λ b. not (nat_eq b s)) bs

unlike : (s : ℕ) → is_name_byte s ≡ false → (b : ℕ) → is_name_byte b ≡ true → not (nat_eq b s) ≡ true
unlike s outside b holds = elim (cases_Bool (nat_eq b s)) [
  | inl same ↦ absurd (true≢false (sym holds ∙ (ap is_name_byte (eqb-true b s same) ∙ outside)))
  | inr apart ↦ not_from_false (nat_eq b s) apart
]

each : (s : ℕ) → is_name_byte s ≡ false → (bs : List ℕ) → list_all is_name_byte bs ≡ true → lacks s bs ≡ true
each s outside [] h = refl
each s outside (b ∷ bs) h =
    let parts = and_parts (is_name_byte b) (list_all is_name_byte bs) h in
    rw (unlike s outside b parts.0, each s outside bs parts.1) refl

pub name_lacks : (s : ℕ) → is_name_byte s ≡ false → (name : List ℕ) → IsName name → lacks s name ≡ true
name_lacks s outside name h = each s outside name (name_bytes name h)

pub number_lacks : (s : ℕ) → is_name_byte s ≡ false → (n : ℕ) → n < 10 ^ 19 → lacks s (decimal n) ≡ true
number_lacks s outside n small = each s outside (decimal n) (digit_bytes (decimal n) (all_digits n small))

pub int_lacks : (s : ℕ) → is_name_byte s ≡ false → nat_eq 45 s ≡ false → (v : ℤ) → nat_abs v < 10 ^ 18 → lacks s (signed_decimal v) ≡ true
int_lacks s outside no_minus (pos n) small = number_lacks s outside n (omega arith)
int_lacks s outside no_minus (negsuc n) small = rw (no_minus, number_lacks s outside (suc n) (omega arith)) refl
