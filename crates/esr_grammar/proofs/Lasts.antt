-- The last bytes of a text, tested by the mask of its last eight.
use Rattle.std.proofs.Common.{◌≡◌, ℕ, zero, suc, ◌+◌, ◌-◌, ◌*◌, ◌/◌, ◌^◌, ◌<◌, ◌≤◌, Bool, not, List, [], ◌∷◌, ◌++◌, drop, map, length, nat_eq, ne_eqb, refl, sym, ap, ◌∙◌, arith, inl, inr}
use Rattle.std.proofs.Math.Nat.{pow-succ', div-div-eq-div-mul}
use Rattle.std.proofs.lemmas.Bool.{cases_Bool}
use Rattle.std.specs.List.{list_all}
use lib.Lanes.{chunk, mask_l}
use Rattle.esr_grammar.proofs.Eights.{last_of}

pub halved : (m b k : ℕ) → b < 2 → (b + 2 * m) / (2 * k) ≡ m / k
halved m b k bit =
    let half : (b + 2 * m) / 2 ≡ m = omega (arith, bit) in
    sym (div-div-eq-div-mul (b + 2 * m) 2 k) ∙ ap (λ q. q / k) half

-- the mask of the lanes after the first ones
pub past : (p : ℕ → Bool) (front word : List ℕ) → mask_l (map p (front ++ word)) / 2 ^ length front ≡ mask_l (map p word)
past p [] word = omega arith
past p (x ∷ xs) word =
    let power : 2 ^ length (x ∷ xs) ≡ 2 * 2 ^ length xs = pow-succ' 2 (length xs) in
    elim (cases_Bool (p x)) [
      | inl passes ↦ rw (power, passes) (halved (mask_l (map p (xs ++ word))) 1 (2 ^ length xs) (omega arith) ∙ past p xs word)
      | inr fails ↦ rw (power, fails) (halved (mask_l (map p (xs ++ word))) 0 (2 ^ length xs) (omega arith) ∙ past p xs word)
    ]

doubled : (m : ℕ) → nat_eq (0 + 2 * m) 0 ≡ nat_eq m 0
doubled zero = refl
doubled (suc m) = ne_eqb (0 + 2 * suc m) 0 (λ (e : 0 + 2 * suc m ≡ 0). absurd (omega (arith, e))) ∙ sym (ne_eqb (suc m) 0 (λ (e : suc m ≡ 0). absurd (omega (arith, e))))

pub none_stops : (p : ℕ → Bool) (word : List ℕ) → nat_eq (mask_l (map (λ b. not (p b)) word)) 0 ≡ list_all p word
none_stops p [] = refl
none_stops p (x ∷ xs) = elim (cases_Bool (p x)) [
  | inl passes ↦ rw passes (doubled (mask_l (map (λ b. not (p b)) xs)) ∙ none_stops p xs)
  | inr fails ↦ rw fails (ne_eqb (1 + 2 * mask_l (map (λ b. not (p b)) xs)) 0 (λ (e : 1 + 2 * mask_l (map (λ b. not (p b)) xs) ≡ 0). absurd (omega (arith, e))))
]

-- the mask of a word, within that of the last n bytes of the text that ends with it
pub last_mask : (p : ℕ → Bool) (n : ℕ) (text front word : List ℕ) (mask : ℕ) → text ≡ front ++ word → n ≤ length text → length word ≤ n
    → mask ≡ mask_l (map p (chunk (length text - n) n text)) → mask / 2 ^ (n - length word) ≡ mask_l (map p word)
last_mask p n text front word mask e long short is =
    let last = last_of n text front word e long short in
    let before = drop (length text - n) front in
    ap (λ m. m / 2 ^ (n - length word)) (is ∙ ap (λ l. mask_l (map p l)) last.0)
    ∙ ap (λ k. mask_l (map p (before ++ word)) / 2 ^ k) (sym last.1)
    ∙ past p before word

-- no lane of the last eight bytes stops within the word with which the text ends
pub last_stops : (p : ℕ → Bool) (text front word : List ℕ) (mask : ℕ) → text ≡ front ++ word → 8 ≤ length text → length word ≤ 8
    → mask ≡ mask_l (map (λ b. not (p b)) (chunk (length text - 8) 8 text)) → nat_eq (mask / 2 ^ (8 - length word)) 0 ≡ list_all p word
last_stops p text front word mask e long short is =
    ap (λ m. nat_eq m 0) (last_mask (λ b. not (p b)) 8 text front word mask e long short is) ∙ none_stops p word
