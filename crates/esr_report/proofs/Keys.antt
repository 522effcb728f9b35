-- The two numbers and the length of a name distinguish it from all others.
use Rattle.std.proofs.Common.{◌≡◌, ℕ, zero, suc, ◌+◌, ◌-◌, ◌*◌, ◌<◌, ◌≤◌, List, [], ◌∷◌, ◌++◌, inl, inr, length, take, drop, get_or, refl, sym, ◌∙◌, ap, arith, nat_le, length-take, length-drop, leb-true}
use Rattle.std.specs.Int.{from_le_bytes, w32, w64}
use Rattle.std.proofs.lemmas.Nat.{le_bytes_4, le_bytes_8}
use Rattle.std.proofs.lemmas.List.{take-append-drop, get_or-drop, drop-drop}
use Rattle.std.proofs.lemmas.Bool.{cases_Bool, leb-false}
use Rattle.esr_report.specs.Keys.{low_of, high_of, AreBytes}

bytes_taken : (n : ℕ) (a : List ℕ) → AreBytes a → AreBytes (take n a)
bytes_taken zero a h i = omega arith
bytes_taken (suc n) [] h i = omega arith
bytes_taken (suc n) (x ∷ xs) h zero = h 0
bytes_taken (suc n) (x ∷ xs) h (suc i) = bytes_taken n xs (λ j. h (suc j)) i

bytes_dropped : (n : ℕ) (a : List ℕ) → AreBytes a → AreBytes (drop n a)
bytes_dropped n a h i = rw (get_or-drop n a i 0) (h (n + i))

word8 : (x y : List ℕ) → length x ≡ 8 → length y ≡ 8 → AreBytes x → AreBytes y → from_le_bytes w64 x ≡ from_le_bytes w64 y → x ≡ y
word8 x y lx ly bx by e = sym (le_bytes_8 x (from_le_bytes w64 x) lx bx refl) ∙ le_bytes_8 y (from_le_bytes w64 x) ly by e

word4 : (x y : List ℕ) → length x ≡ 4 → length y ≡ 4 → AreBytes x → AreBytes y → from_le_bytes w32 x ≡ from_le_bytes w32 y → x ≡ y
word4 x y lx ly bx by e = sym (le_bytes_4 x (from_le_bytes w32 x) lx bx refl) ∙ le_bytes_4 y (from_le_bytes w32 x) ly by e

-- the last n bytes from the first n on
rest : (n : ℕ) (a : List ℕ) → n ≤ length a → length a ≤ n + n → drop n a ≡ drop (n - (length a - n)) (drop (length a - n) a)
rest n a count_within_max short =
    let at : (length a - n) + (n - (length a - n)) ≡ n = omega (arith, count_within_max, short) in
    grind (arith, drop-drop, at, count_within_max, short)

joined : (n : ℕ) (a b : List ℕ) → length a ≡ length b → n ≤ length a → length a ≤ n + n → take n a ≡ take n b
    → drop (length a - n) a ≡ drop (length b - n) b → a ≡ b
joined n a b long count_within_max short front back =
    let following : drop n a ≡ drop n b =
    rest n a count_within_max short ∙ ap (drop (n - (length a - n))) back ∙ ap (λ l. drop (n - (l - n)) (drop (length b - n) b)) long
    ∙ sym (rest n b (omega (arith, long, count_within_max)) (omega (arith, long, short))) in
    sym (take-append-drop n a) ∙ ap (λ l. l ++ drop n a) front ∙ ap (λ l. take n b ++ l) following ∙ take-append-drop n b

two : (a b : List ℕ) → length a ≡ length b → length a < 3 → AreBytes a → AreBytes b
    → get_or a 0 0 + 256 * get_or a 1 0 ≡ get_or b 0 0 + 256 * get_or b 1 0 → a ≡ b
two [] [] l s ba bb e = refl
two [] (y ∷ ys) l s ba bb e = absurd (omega (arith, l))
two (x ∷ xs) [] l s ba bb e = absurd (omega (arith, l))
two (x ∷ []) (y ∷ []) l s ba bb e = ap (λ n. n ∷ []) (omega (arith, e))
two (x ∷ []) (y ∷ z ∷ zs) l s ba bb e = absurd (omega (arith, l))
two (x ∷ w ∷ ws) (y ∷ []) l s ba bb e = absurd (omega (arith, l))
two (x ∷ w ∷ []) (y ∷ z ∷ []) l s ba bb e =
    let first : x ≡ y = omega (arith, e, ba 0, bb 0) in
    let second : w ≡ z = omega (arith, e, ba 0, bb 0) in
    rw (first, second) refl
two (x ∷ w ∷ []) (y ∷ z ∷ v ∷ vs) l s ba bb e = absurd (omega (arith, l))
two (x ∷ w ∷ u ∷ us) (y ∷ z ∷ zs) l s ba bb e = absurd (omega (arith, s))

three : (a b : List ℕ) → length a ≡ length b → length a < 4 → AreBytes a → AreBytes b → get_or a 0 0 ≡ get_or b 0 0
    → get_or a 1 0 + 256 * get_or a 2 0 ≡ get_or b 1 0 + 256 * get_or b 2 0 → a ≡ b
three [] [] l s ba bb e f = refl
three [] (y ∷ ys) l s ba bb e f = absurd (omega (arith, l))
three (x ∷ xs) [] l s ba bb e f = absurd (omega (arith, l))
three (x ∷ xs) (y ∷ ys) l s ba bb e f =
    let more : xs ≡ ys = two xs ys (omega (arith, l)) (omega (arith, s)) (λ i. ba (suc i)) (λ i. bb (suc i)) f in
    ap (λ n. n ∷ xs) e ∙ ap (λ t. y ∷ t) more

-- names of one key are one name
pub same_name : (a b : List ℕ) → length a ≡ length b → length a ≤ 16 → AreBytes a → AreBytes b → low_of a ≡ low_of b → high_of a ≡ high_of b → a ≡ b
same_name a b l s ba bb low high = elim (cases_Bool (nat_le 8 (length a))) [
  | inl t ↦
      let count_within_max : 8 ≤ length a = leb-true 8 (length a) t in
      let front : from_le_bytes w64 (take 8 a) ≡ from_le_bytes w64 (take 8 b) = rw (← l, t) at low in
      let back : from_le_bytes w64 (drop (length a - 8) a) ≡ from_le_bytes w64 (drop (length a - 8) b) = rw (← l, t) at high in
      joined 8 a b l count_within_max (omega (arith, s))
      (word8 (take 8 a) (take 8 b) (omega (arith, count_within_max, length-take 8 a)) (omega (arith, count_within_max, l, length-take 8 b)) (bytes_taken 8 a ba) (bytes_taken 8 b bb) front)
      (word8 (drop (length a - 8) a) (drop (length a - 8) b) (omega (arith, count_within_max, length-drop (length a - 8) a)) (omega (arith, count_within_max, l, length-drop (length a - 8) b)) (bytes_dropped _ a ba) (bytes_dropped _ b bb) back
      ∙ ap (λ n. drop (n - 8) b) l)
  | inr f ↦ elim (cases_Bool (nat_le 4 (length a))) [
    | inl t ↦
        let count_within_max : 4 ≤ length a = leb-true 4 (length a) t in
        let small : length a < 8 = leb-false 8 (length a) f in
        let front : from_le_bytes w32 (take 4 a) ≡ from_le_bytes w32 (take 4 b) = rw (← l, f, t) at low in
        let back : from_le_bytes w32 (drop (length a - 4) a) ≡ from_le_bytes w32 (drop (length a - 4) b) = rw (← l, f, t) at high in
        joined 4 a b l count_within_max (omega (arith, small))
        (word4 (take 4 a) (take 4 b) (omega (arith, count_within_max, length-take 4 a)) (omega (arith, count_within_max, l, length-take 4 b)) (bytes_taken 4 a ba) (bytes_taken 4 b bb) front)
        (word4 (drop (length a - 4) a) (drop (length a - 4) b) (omega (arith, count_within_max, length-drop (length a - 4) a)) (omega (arith, count_within_max, l, length-drop (length a - 4) b)) (bytes_dropped _ a ba) (bytes_dropped _ b bb) back
        ∙ ap (λ n. drop (n - 4) b) l)
    | inr g ↦
        let small : length a < 4 = leb-false 4 (length a) g in
        let first : get_or a 0 0 ≡ get_or b 0 0 = rw (← l, f, g) at low in
        let more : get_or a 1 0 + 256 * get_or a 2 0 ≡ get_or b 1 0 + 256 * get_or b 2 0 = rw (← l, f, g) at high in
        three a b l small ba bb first more
  ]
]
