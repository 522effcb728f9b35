-- A name before the first blank.
use Rattle.std.proofs.Common.{FitsSigned, w64, ℤ, ◌≡◌, ℕ, zero, suc, ◌+◌, ◌-◌, ◌<◌, ◌≤◌, List, [], ◌∷◌, ◌++◌, Bool, true, false, not, ◌||◌, length, take, drop, get_or, refl, sym, ◌∙◌, ap, subst, arith, Some, position, nat_eq, le-leb, add-one, length-drop, length-take}
use Rattle.std.proofs.lemmas.Bool.{true≢false}
use Rattle.std.proofs.lemmas.Int.{ints}
use Rattle.std.proofs.lemmas.List.{take_all}
use Rattle.std.proofs.lemmas.List.Quantifiers.{position-Some}
use Rattle.std.specs.List.{list_all}
use Rattle.esr_grammar.specs.Command.{is_between, is_name_byte, is_letter, is_name, IsInt}

passed : (v : Bool) → not v ≡ false → v ≡ true
passed true e = refl
passed false e = cc

all_before : (bytes : List ℕ) (n : ℕ) → n ≤ length bytes → ((k : ℕ) → k < n → not (is_name_byte (get_or bytes k 0)) ≡ false) → list_all is_name_byte (take n bytes) ≡ true
all_before [] zero l h = refl
all_before [] (suc n) l h = absurd (omega (arith, l))
all_before (b ∷ bs) zero l h = refl
all_before (b ∷ bs) (suc n) l h = rw (passed (is_name_byte b) (h 0 (omega arith)), all_before bs n (omega (arith, l)) (λ k i. h (suc k) (omega (arith, i)))) refl

named : (bytes : List ℕ) (place : ℕ) → place ≤ length bytes → ((k : ℕ) → k < place → not (is_name_byte (get_or bytes k 0)) ≡ false) → (place ≡ 0 → ⊥) → place ≤ 16
    → is_letter (get_or bytes 0 0) ≡ true → is_name (take place bytes) ≡ true
named bytes zero l h some count_within_max first = absurd (some refl)
named [] (suc n) l h some count_within_max first = absurd (omega (arith, l))
named (b ∷ bs) (suc n) l h some count_within_max first =
    let short : length (take n bs) ≤ 15 = omega (arith, count_within_max, l, length-take n bs) in
    rw (first, le-leb _ _ short, all_before bs n (omega (arith, l)) (λ k i. h (suc k) (omega (arith, i)))) refl

letter_named : (b : ℕ) → is_letter b ≡ true → is_name_byte b ≡ true
letter_named b letter = ap (λ v. v || (is_between 48 57 b || nat_eq b 95)) letter

-- the bytes before the first that is not permitted in a name, if they are a letter and up to 15 more
pub front_is_name : (bytes : List ℕ) (place : ℕ) → position (λ b. not (is_name_byte b)) bytes ≡ Some place → place ≤ 16
    → is_letter (get_or bytes 0 0) ≡ true → is_name (take place bytes) ≡ true
front_is_name bytes place e count_within_max first =
    let found = position-Some (λ b. not (is_name_byte b)) bytes place 0 e in
    let some : place ≡ 0 → ⊥ =
    λ (z : place ≡ 0). true≢false (sym (subst (λ k. not (is_name_byte (get_or bytes k 0)) ≡ true) z found.1) ∙ ap not (letter_named (get_or bytes 0 0) first)) in
    named bytes place (omega (arith, found.0)) found.2 some count_within_max first

cut : (bytes : List ℕ) (place : ℕ) → place < length bytes → get_or bytes place 0 ≡ 32 → bytes ≡ take place bytes ++ 32 ∷ drop (suc place) bytes
cut [] place l e = absurd (omega (arith, l))
cut (b ∷ bs) zero l e = ap (λ n. n ∷ bs) e
cut (b ∷ bs) (suc n) l e = ap (λ t. b ∷ t) (cut bs n (omega (arith, l)) e)

-- the bytes, cut at a blank
pub front_cut : (bytes : List ℕ) (place : ℕ) → place < length bytes → get_or bytes place 0 ≡ 32
    → bytes ≡ take place bytes ++ 32 ∷ take (length bytes - (place + 1)) (drop (place + 1) bytes)
front_cut bytes place l e =
    cut bytes place l e
    ∙ ap (λ n. take place bytes ++ 32 ∷ drop n bytes) (sym (add-one place))
    ∙ ap (λ t. take place bytes ++ 32 ∷ t) (sym (take_all (length bytes - (place + 1)) (drop (place + 1) bytes) (omega (arith, length-drop (place + 1) bytes))))

-- a whole number of a line fits its type
pub int_fits : (v : ℤ) → IsInt v → FitsSigned w64 v
int_fits v h = omega (arith, ints)
