-- The mask of the bytes after a name.
use Rattle.std.proofs.Common.{◌≡◌, ℕ, zero, suc, ◌+◌, ◌-◌, ◌*◌, ◌/◌, ◌^◌, ◌≤◌, Bool, true, le-leb, List, [], ◌∷◌, ◌++◌, take, map, length, length-append, refl, sym, ◌∙◌, ap, ap₂, arith, inl, inr, ◌&&◌, nat_le, nat_eq, leb-true}
use Rattle.std.proofs.Math.Nat.{pow-succ'}
use native.Mathlib.Nat.{zero-div}
use Rattle.std.proofs.lemmas.Bool.{cases_Bool, and_parts, true≢false}
use Rattle.std.specs.List.{list_all}
use Rattle.esr_grammar.specs.Command.{is_letter, is_name_byte, IsName}
use Rattle.esr_grammar.specs.Stops.{is_stop, AreStops, starts_with_letter}
use lib.Lanes.{mask_l}
use Rattle.esr_grammar.proofs.Eights.{past_first}
use Rattle.esr_grammar.proofs.Lasts.{halved, past, none_stops}

whole : (m : ℕ) → m / 1 ≡ m
whole m = omega arith

none_taken : (p : ℕ → Bool) (xs : List ℕ) → mask_l (map p (take 0 xs)) ≡ 0
none_taken p [] = refl
none_taken p (x ∷ xs) = refl

-- the mask of the first bytes, without those before the others
past_some : (p : ℕ → Bool) (count : ℕ) (front rest : List ℕ) → mask_l (map p (take count (front ++ rest))) / 2 ^ length front ≡ mask_l (map p (take (count - length front) rest))
past_some p count [] rest =
    let same : count ≡ count - 0 = omega arith in
    whole (mask_l (map p (take count rest))) ∙ ap (λ k. mask_l (map p (take k rest))) same
past_some p zero (x ∷ xs) rest =
    let none : 0 ≡ 0 - length (x ∷ xs) = omega arith in
    ap (λ m. m / 2 ^ length (x ∷ xs)) (none_taken p ((x ∷ xs) ++ rest)) ∙ zero-div (2 ^ length (x ∷ xs)) ∙ sym (none_taken p rest) ∙ ap (λ k. mask_l (map p (take k rest))) none
past_some p (suc n) (x ∷ xs) rest =
    let power : 2 ^ length (x ∷ xs) ≡ 2 * 2 ^ length xs = pow-succ' 2 (length xs) in
    let less : n - length xs ≡ suc n - length (x ∷ xs) = omega arith in
    let later = past_some p n xs rest ∙ ap (λ k. mask_l (map p (take k rest))) less in
    elim (cases_Bool (p x)) [
      | inl passes ↦ rw (power, passes) (halved (mask_l (map p (take n (xs ++ rest)))) 1 (2 ^ length xs) (omega arith) ∙ later)
      | inr fails ↦ rw (power, fails) (halved (mask_l (map p (take n (xs ++ rest)))) 0 (2 ^ length xs) (omega arith) ∙ later)
    ]

long : (name : List ℕ) → length (name ++ 32 ∷ []) ≡ length name + 1
long name = length-append name (32 ∷ [])

pub are_after : (bytes name more : List ℕ) (stops : ℕ) → AreStops bytes stops → bytes ≡ name ++ 32 ∷ more → AreStops more (stops / 2 ^ (length name + 1))
are_after bytes name more stops are e =
    let front : List ℕ = name ++ 32 ∷ [] in
    let same : bytes ≡ front ++ more = e ∙ past_first name more 32 in
    let size : length bytes ≡ length front + length more = ap length same ∙ length-append front more in
    let mask : stops / 2 ^ (length name + 1) ≡ mask_l (map is_stop (take (are.0 - length front) more)) =
    ap (λ k. stops / 2 ^ k) (sym (long name)) ∙ ap (λ m. m / 2 ^ length front) (are.3 ∙ ap (λ l. mask_l (map is_stop (take are.0 l))) same) ∙ past_some is_stop are.0 front more in
    (are.0 - length front, omega (arith, are.1), omega (arith, are.2, size), mask)

-- the mask of all bytes after a name
pub all_after : (bytes name more : List ℕ) (stops : ℕ) → stops ≡ mask_l (map is_stop bytes) → bytes ≡ name ++ 32 ∷ more → stops / 2 ^ (length name + 1) ≡ mask_l (map is_stop more)
all_after bytes name more stops is e =
    let front : List ℕ = name ++ 32 ∷ [] in
    ap (λ k. stops / 2 ^ k) (sym (long name)) ∙ ap (λ m. m / 2 ^ length front) (is ∙ ap (λ l. mask_l (map is_stop l)) (e ∙ past_first name more 32)) ∙ past is_stop front more

pub name_short : (name : List ℕ) → IsName name → length name ≤ 16
name_short [] h = omega arith
name_short (b ∷ bs) h =
    let rest = and_parts (is_letter b) (nat_le (length bs) 15 && list_all is_name_byte bs) h in
    let few = leb-true (length bs) 15 (and_parts (nat_le (length bs) 15) (list_all is_name_byte bs) rest.1).0 in
    omega (arith, few)

-- a word of up to 16 bytes, none of which stops, and the first a letter
pub whole_name : (word : List ℕ) (stops : ℕ) → stops ≡ mask_l (map is_stop word) → stops ≡ 0 → length word ≤ 16 → starts_with_letter word ≡ true → IsName word
whole_name [] stops is none short first = absurd (true≢false (sym first))
whole_name (b ∷ bs) stops is none short first =
    let all : list_all is_name_byte (b ∷ bs) ≡ true = sym (none_stops is_name_byte (b ∷ bs)) ∙ ap (λ m. nat_eq m 0) (sym is ∙ none) in
    let rest = and_parts (is_name_byte b) (list_all is_name_byte bs) all in
    let few : length bs ≤ 15 = omega (arith, short) in
    ap₂ (λ u v. u && v) first (ap₂ (λ u v. u && v) (le-leb (length bs) 15 few) rest.1)
