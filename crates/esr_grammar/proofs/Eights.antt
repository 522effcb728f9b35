-- Eight bytes as the digits of a number.
use Rattle.std.proofs.Common.{◌≡◌, ℕ, zero, suc, ◌+◌, ◌-◌, ◌*◌, ◌%◌, ◌^◌, ◌<◌, ◌≤◌, Bool, true, false, not, ◌&&◌, ◌||◌, cond, List, [], ◌∷◌, ◌++◌, map, length, get_or, replicate, nat_lt, nat_eq, Fits, w8, refl, sym, ap, ap₂, ◌∙◌, arith, eqb-true, lt-ltb, ltb-true, inl, inr, drop, length-drop, length-append}
use Rattle.std.proofs.Math.Nat.{pow-succ'}
use Rattle.std.proofs.lemmas.Bool.{true≢false, agree_below_at, and_parts, cases_Bool}
use Rattle.std.proofs.lemmas.List.{length-map, drop-append-le, take_all}
use Rattle.std.specs.Char.{is_ascii_digit}
use Rattle.std.specs.List.{AllByRecursion, list_all}
use Rattle.std.specs.Str.{all_ascii_digits}
use Rattle.esr_grammar.specs.Command.{value_from}
use lib.Lanes.{zip2, sel_l, fold_l, top, chunk, mask_l}
use Rattle.esr_grammar.specs.Digits.{padded, worth}

-- the lanes of `padded`
pub padded_is : (v : List ℕ) (n : ℕ) → length v ≡ 8 → n ≤ 8
    → sel_l (map (λ i. top 7 (cond (nat_lt i n) 255 0)) (0 ∷ 1 ∷ 2 ∷ 3 ∷ 4 ∷ 5 ∷ 6 ∷ 7 ∷ [])) (replicate 8 0) (zip2 (λ a b. (a + (256 - b)) % 256) v (replicate 8 48)) ≡ padded n v
padded_is (a ∷ b ∷ c ∷ d ∷ e ∷ f ∷ g ∷ h ∷ []) zero l s = refl
padded_is (a ∷ b ∷ c ∷ d ∷ e ∷ f ∷ g ∷ h ∷ []) (suc zero) l s = refl
padded_is (a ∷ b ∷ c ∷ d ∷ e ∷ f ∷ g ∷ h ∷ []) (suc (suc zero)) l s = refl
padded_is (a ∷ b ∷ c ∷ d ∷ e ∷ f ∷ g ∷ h ∷ []) (suc (suc (suc zero))) l s = refl
padded_is (a ∷ b ∷ c ∷ d ∷ e ∷ f ∷ g ∷ h ∷ []) (suc (suc (suc (suc zero)))) l s = refl
padded_is (a ∷ b ∷ c ∷ d ∷ e ∷ f ∷ g ∷ h ∷ []) (suc (suc (suc (suc (suc zero))))) l s = refl
padded_is (a ∷ b ∷ c ∷ d ∷ e ∷ f ∷ g ∷ h ∷ []) (suc (suc (suc (suc (suc (suc zero)))))) l s = refl
padded_is (a ∷ b ∷ c ∷ d ∷ e ∷ f ∷ g ∷ h ∷ []) (suc (suc (suc (suc (suc (suc (suc zero))))))) l s = refl
padded_is (a ∷ b ∷ c ∷ d ∷ e ∷ f ∷ g ∷ h ∷ []) (suc (suc (suc (suc (suc (suc (suc (suc zero)))))))) l s = refl
padded_is (a ∷ b ∷ c ∷ d ∷ e ∷ f ∷ g ∷ h ∷ []) (suc (suc (suc (suc (suc (suc (suc (suc (suc n))))))))) l s = absurd (omega (arith, s))
padded_is [] n l s = absurd (omega (arith, l))
padded_is (a ∷ []) n l s = absurd (omega (arith, l))
padded_is (a ∷ b ∷ []) n l s = absurd (omega (arith, l))
padded_is (a ∷ b ∷ c ∷ []) n l s = absurd (omega (arith, l))
padded_is (a ∷ b ∷ c ∷ d ∷ []) n l s = absurd (omega (arith, l))
padded_is (a ∷ b ∷ c ∷ d ∷ e ∷ []) n l s = absurd (omega (arith, l))
padded_is (a ∷ b ∷ c ∷ d ∷ e ∷ f ∷ []) n l s = absurd (omega (arith, l))
padded_is (a ∷ b ∷ c ∷ d ∷ e ∷ f ∷ g ∷ []) n l s = absurd (omega (arith, l))
padded_is (a ∷ b ∷ c ∷ d ∷ e ∷ f ∷ g ∷ h ∷ i ∷ v) n l s = absurd (omega (arith, l))

pub worth_is : (v : List ℕ) → length v ≡ 8 → AllByRecursion (λ d. d < 10) v
    → fold_l (λ a b. (a + b) % 4294967296) 0 (zip2 (λ a b. (a * b) % 4294967296) (map (λ d. d) v) (10000000 ∷ 1000000 ∷ 100000 ∷ 10000 ∷ 1000 ∷ 100 ∷ 10 ∷ 1 ∷ [])) ≡ worth v
worth_is (a ∷ b ∷ c ∷ d ∷ e ∷ f ∷ g ∷ h ∷ []) l s = omega (arith, s.0, s.1.0, s.1.1.0, s.1.1.1.0, s.1.1.1.1.0, s.1.1.1.1.1.0, s.1.1.1.1.1.1.0, s.1.1.1.1.1.1.1.0)
worth_is [] l s = absurd (omega (arith, l))
worth_is (a ∷ []) l s = absurd (omega (arith, l))
worth_is (a ∷ b ∷ []) l s = absurd (omega (arith, l))
worth_is (a ∷ b ∷ c ∷ []) l s = absurd (omega (arith, l))
worth_is (a ∷ b ∷ c ∷ d ∷ []) l s = absurd (omega (arith, l))
worth_is (a ∷ b ∷ c ∷ d ∷ e ∷ []) l s = absurd (omega (arith, l))
worth_is (a ∷ b ∷ c ∷ d ∷ e ∷ f ∷ []) l s = absurd (omega (arith, l))
worth_is (a ∷ b ∷ c ∷ d ∷ e ∷ f ∷ g ∷ []) l s = absurd (omega (arith, l))
worth_is (a ∷ b ∷ c ∷ d ∷ e ∷ f ∷ g ∷ h ∷ i ∷ v) l s = absurd (omega (arith, l))

pub worth_small : (v : List ℕ) → length v ≡ 8 → AllByRecursion (λ d. d < 10) v → worth v < 10 ^ 8
worth_small (a ∷ b ∷ c ∷ d ∷ e ∷ f ∷ g ∷ h ∷ []) l s = omega (arith, s.0, s.1.0, s.1.1.0, s.1.1.1.0, s.1.1.1.1.0, s.1.1.1.1.1.0, s.1.1.1.1.1.1.0, s.1.1.1.1.1.1.1.0)
worth_small [] l s = absurd (omega (arith, l))
worth_small (a ∷ []) l s = absurd (omega (arith, l))
worth_small (a ∷ b ∷ []) l s = absurd (omega (arith, l))
worth_small (a ∷ b ∷ c ∷ []) l s = absurd (omega (arith, l))
worth_small (a ∷ b ∷ c ∷ d ∷ []) l s = absurd (omega (arith, l))
worth_small (a ∷ b ∷ c ∷ d ∷ e ∷ []) l s = absurd (omega (arith, l))
worth_small (a ∷ b ∷ c ∷ d ∷ e ∷ f ∷ []) l s = absurd (omega (arith, l))
worth_small (a ∷ b ∷ c ∷ d ∷ e ∷ f ∷ g ∷ []) l s = absurd (omega (arith, l))
worth_small (a ∷ b ∷ c ∷ d ∷ e ∷ f ∷ g ∷ h ∷ i ∷ v) l s = absurd (omega (arith, l))

-- 0 in place of the bytes before the number
zeros : ℕ → List ℕ
zeros n = replicate n 0

abbrev pub digit_of : ℕ → ℕ
digit_of x = (x + 208) % 256

padded_number : (number : List ℕ) → padded 0 number ≡ map digit_of number
padded_number [] = refl
padded_number (x ∷ xs) = ap (λ l. digit_of x ∷ l) (padded_number xs)

pub padded_after : (front number : List ℕ) → padded (length front) (front ++ number) ≡ replicate (length front) 0 ++ map digit_of number
padded_after [] number = padded_number number
padded_after (x ∷ xs) number = ap (λ l. 0 ∷ l) (padded_after xs number)

pub worth_after : (n : ℕ) (digits : List ℕ) → worth (replicate n 0 ++ digits) ≡ worth digits
worth_after zero digits = refl
worth_after (suc n) digits = omega (arith, worth_after n digits)

pub below_after : (n : ℕ) (digits : List ℕ) → list_all (λ d. nat_lt d 10) (replicate n 0 ++ digits) ≡ list_all (λ d. nat_lt d 10) digits
below_after zero digits = refl
below_after (suc n) digits = below_after n digits

abbrev pub AreBytes : List ℕ → Type 0
AreBytes text = (k : ℕ) → Fits w8 (get_or text k 0)

pub are_digits : (number : List ℕ) → AreBytes number → list_all (λ d. nat_lt d 10) (map digit_of number) ≡ all_ascii_digits number
are_digits [] bytes = refl
are_digits (x ∷ xs) bytes =
    ap₂ (λ a b. a && b) (agree_below_at (λ b. nat_lt (digit_of b) 10) is_ascii_digit 256 x refl (bytes 0).fits) (are_digits xs (λ k. bytes (suc k)))

one_more : (t n d w : ℕ) → (10 * n + d) * t + w ≡ n * (10 * t) + (d * t + w)
one_more t n d w = grind arith

implied : (a b : Bool) → a ≡ true → (not a || b) ≡ true → b ≡ true
implied true b given h = h
implied false b given h = absurd (true≢false (sym given))

low : (x : ℕ) → x < 256 → is_ascii_digit x ≡ true → x - 48 ≡ digit_of x
low x byte digit = eqb-true (x - 48) (digit_of x) (implied (is_ascii_digit x) _ digit (agree_below_at (λ b. not (is_ascii_digit b) || nat_eq (b - 48) (digit_of b)) (λ _. true) 256 x refl byte))

pub worth_of : (n : ℕ) (number : List ℕ) → AreBytes number → all_ascii_digits number ≡ true → value_from n number ≡ n * 10 ^ length number + worth (map digit_of number)
worth_of n [] bytes digits = omega arith
worth_of n (x ∷ xs) bytes digits =
    let parts = and_parts (is_ascii_digit x) (all_ascii_digits xs) digits in
    let more = worth_of (10 * n + (x - 48)) xs (λ k. bytes (suc k)) parts.1 in
    let long : length (map digit_of xs) ≡ length xs = length-map xs digit_of in
    let ten : 10 ^ length (x ∷ xs) ≡ 10 * 10 ^ length xs = pow-succ' 10 (length xs) in
    rw (long, ten, ← low x (bytes 0).fits parts.0) (more ∙ one_more (10 ^ length xs) n (x - 48) (worth (map digit_of xs)))

nothing : (t w : ℕ) → 0 * t + w ≡ w
nothing t w = omega arith

-- the value of eight digits after a value
pub value_after : (n : ℕ) (eight : List ℕ) → AreBytes eight → length eight ≡ 8 → all_ascii_digits eight ≡ true → value_from n eight ≡ n * 10 ^ 8 + value_from 0 eight
value_after n eight bytes long digits =
    let power : 10 ^ length eight ≡ 10 ^ 8 = ap (λ k. 10 ^ k) long in
    let one : value_from n eight ≡ n * 10 ^ 8 + worth (map digit_of eight) = worth_of n eight bytes digits ∙ ap (λ p. n * p + worth (map digit_of eight)) power in
    one ∙ ap (λ w. n * 10 ^ 8 + w) (sym (worth_of 0 eight bytes digits ∙ nothing (10 ^ length eight) (worth (map digit_of eight))))

abbrev pub is_not_below : ℕ → Bool
is_not_below d = not (nat_lt d 10)

pub none_above : (v : List ℕ) → mask_l (map is_not_below v) ≡ 0 → AllByRecursion (λ d. d < 10) v
none_above [] e = tt
none_above (x ∷ xs) e = elim (cases_Bool (nat_lt x 10)) [
  | inl below ↦ let more : 0 + 2 * mask_l (map is_not_below xs) ≡ 0 = rw below at e in (ltb-true x 10 below, none_above xs (omega (arith, more)))
  | inr above ↦ let more : 1 + 2 * mask_l (map is_not_below xs) ≡ 0 = rw above at e in absurd (omega (arith, more))
]

pub all_below : (v : List ℕ) → AllByRecursion (λ d. d < 10) v → list_all (λ d. nat_lt d 10) v ≡ true
all_below [] h = refl
all_below (x ∷ xs) h = rw (lt-ltb x 10 h.0, all_below xs h.1) refl

pub some_above : (v : List ℕ) → (mask_l (map is_not_below v) ≡ 0 → ⊥) → list_all (λ d. nat_lt d 10) v ≡ false
some_above [] h = absurd (h refl)
some_above (x ∷ xs) h = elim (cases_Bool (nat_lt x 10)) [
  | inl below ↦ rw below (some_above xs (λ e. h (rw (below, e) refl)))
  | inr above ↦ rw above refl
]

-- the last n bytes of a text that ends with a word
pub last_of : (n : ℕ) (text front word : List ℕ) → text ≡ front ++ word → n ≤ length text → length word ≤ n
    → (chunk (length text - n) n text ≡ drop (length text - n) front ++ word) × (length (drop (length text - n) front) ≡ n - length word)
last_of n text front word e long short =
    let total : length text ≡ length front + length word = ap length e ∙ length-append front word in
    let i = length text - n in
    let cut : drop i text ≡ drop i front ++ word = ap (drop i) e ∙ drop-append-le i front word (omega (arith, total, short, long)) in
    let few : length (drop i text) ≤ n = omega (arith, length-drop i text) in
    (take_all n (drop i text) few ∙ cut, omega (arith, length-drop i front, total, long))

-- what the digits of the last eight bytes say of the number
pub record IsNumber (text number : List ℕ) : Type 0 where
  pub below : list_all (λ d. nat_lt d 10) (padded (8 - length number) (chunk (length text - 8) 8 text)) ≡ all_ascii_digits number
  pub value : all_ascii_digits number ≡ true → worth (padded (8 - length number) (chunk (length text - 8) 8 text)) ≡ value_from 0 number

pub number_in : (text front number : List ℕ) → AreBytes number → text ≡ front ++ number → 8 ≤ length text → length number ≤ 8 → IsNumber text number
number_in text front number bytes e long short =
    let eight = last_of 8 text front number e long short in
    let before = drop (length text - 8) front in
    let is : padded (8 - length number) (chunk (length text - 8) 8 text) ≡ replicate (length before) 0 ++ map digit_of number =
    ap₂ padded (sym eight.1) eight.0 ∙ padded_after before number in
    let value = λ (digits : all_ascii_digits number ≡ true). ap worth is ∙ worth_after (length before) (map digit_of number) ∙ sym (worth_of 0 number bytes digits ∙ nothing (10 ^ length number) (worth (map digit_of number))) in
    record {
      below = ap (list_all (λ d. nat_lt d 10)) is ∙ below_after (length before) (map digit_of number) ∙ are_digits number bytes;
      value = value;
    }

pub past_first : (front xs : List ℕ) (x : ℕ) → front ++ x ∷ xs ≡ (front ++ x ∷ []) ++ xs
past_first [] xs x = refl
past_first (y ∷ ys) xs x = ap (λ l. y ∷ l) (past_first ys xs x)

pub past_two : (one two xs : List ℕ) (x y : ℕ) → one ++ x ∷ (two ++ y ∷ xs) ≡ (one ++ x ∷ (two ++ y ∷ [])) ++ xs
past_two [] two xs x y = ap (λ l. x ∷ l) (past_first two xs y)
past_two (z ∷ zs) two xs x y = ap (λ l. z ∷ l) (past_two zs two xs x y)
