-- Numbers and words, and how they are read.
use Rattle.std.proofs.Common.{◌≡◌, ℕ, zero, suc, ◌<◌, ◌≤◌, ◌^◌, ℤ, pos, negsuc, nat_abs, List, [], ◌∷◌, ◌++◌, ◌+◌, ◌*◌, ◌-◌, inl, inr, IfSome, IfNone, true, false, Bool, ◌&&◌, length, take, drop, get_or, refl, sym, subst, ◌∙◌, ap, ap₂, arith, rules, nat_lt, nat_eq, Some, None, Option, option_map, option_and_then, decimal, lt-ltb, ltb-true, eqb-true}
use Rattle.std.specs.List.{AllByRecursion, join_with_byte}
use Rattle.std.specs.Str.{bytes_eq, all_ascii_digits}
use Rattle.std.specs.Char.{is_ascii_digit}
use Rattle.std.specs.Fmt.{signed_decimal}
use Rattle.std.proofs.lemmas.Bool.{ne_eqb, and_parts, cases_Bool}
use Rattle.std.proofs.lemmas.List.Splits.{slice_split_at, slice_split_none}
use Rattle.std.proofs.lemmas.Slice.Eq.{bytes_eq-Decides}
use Rattle.std.proofs.lemmas.Str.Parse.{IsNumeralModel, numerals_by_fold}
use Rattle.std.proofs.lemmas.Fmt.{digits_value-decimal, digits_decimal, decimal_nonempty, decimal-digits_value, first_decimal, length-decimal-le}
use Rattle.std.proofs.lemmas.List.{take_more, take_all, take-append-drop}
use Rattle.std.proofs.lemmas.Option.{cond_some}
use Rattle.std.proofs.Math.Nat.{pow-succ', pow-le-pow_right}
use Rattle.esr_grammar.specs.Command.{IsPlainWord, IsInt, IsLimit, words_of, is_space, number_below, value_from, int_of, limit_in, minus}

-- ---- options

pub and_then_some : {A B : Type 0} (f : A → Option B) (o : Option A) (b : B) → option_and_then f o ≡ Some b → (a : A) × (o ≡ Some a) × (f a ≡ Some b)
and_then_some f None b e = cc
and_then_some f (Some a) b e = (a, refl, e)

pub map_some : {A B : Type 0} (f : A → B) (o : Option A) (b : B) → option_map f o ≡ Some b → (a : A) × (o ≡ Some a) × (f a ≡ b)
map_some f None b e = cc
map_some f (Some a) b e = (a, refl, cc)

-- ---- words

-- words without blanks are found again
pub split_join : (w : List ℕ) (ws : List (List ℕ)) → IsPlainWord w → AllByRecursion IsPlainWord ws → words_of (join_with_byte 32 (w ∷ ws)) ≡ w ∷ ws
split_join w [] plain rest = slice_split_none is_space w plain
split_join w (v ∷ vs) plain rest =
    slice_split_at is_space w 32 (join_with_byte 32 (v ∷ vs)) plain refl ∙ ap (λ l. w ∷ l) (split_join v vs rest.0 rest.1)

-- ---- tests of two parts

-- ---- numbers

own : IsNumeralModel (λ ds. all_ascii_digits ds ≡ true) (value_from 0)
own = numerals_by_fold _ (search rules) value_from (search rules)

value-push : (n : ℕ) (cs : List ℕ) (c : ℕ) → value_from n (cs ++ c ∷ []) ≡ 10 * value_from n cs + (c - 48)
value-push n [] c = refl
value-push n (x ∷ xs) c = value-push (10 * n + (x - 48)) xs c

digits-push : (cs : List ℕ) (c : ℕ) → all_ascii_digits cs ≡ true → is_ascii_digit c ≡ true → all_ascii_digits (cs ++ c ∷ []) ≡ true
digits-push [] c h e = rw e refl
digits-push (x ∷ xs) c h e =
    let parts = and_parts (is_ascii_digit x) (all_ascii_digits xs) h in
    rw parts.0 (digits-push xs c parts.1 e)

digit_at : (cs : List ℕ) (i d : ℕ) → all_ascii_digits cs ≡ true → i < length cs → is_ascii_digit (get_or cs i d) ≡ true
digit_at [] i d h within = absurd (omega (arith, within))
digit_at (c ∷ cs) zero d h within = (and_parts (is_ascii_digit c) (all_ascii_digits cs) h).0
digit_at (c ∷ cs) (suc i) d h within = digit_at cs i d (and_parts (is_ascii_digit c) (all_ascii_digits cs) h).1 (omega (arith, within))

ten_times : (i : ℕ) → 10 ^ (i + 1) ≡ 10 * 10 ^ i
ten_times i = ap (λ k. 10 ^ k) (omega arith) ∙ pow-succ' 10 i

-- the value of the first digits
pub record IsValueOf (cs : List ℕ) (i value : ℕ) : Type 0 where
  pub value_is : value ≡ value_from 0 (take i cs)
  pub small : value < 10 ^ i
  pub digits : all_ascii_digits (take i cs) ≡ true

-- one more digit
pub one_digit : (cs : List ℕ) (i d value c : ℕ) → IsValueOf cs i value → i < length cs → c ≡ get_or cs i d → is_ascii_digit c ≡ true → c ≤ 57 → IsValueOf cs (i + 1) (10 * value + (c - 48))
one_digit cs i d value c so_far within is digit high =
    grind (arith, take_more cs i d within, value-push 0 (take i cs) c, ten_times i, digits-push (take i cs) c so_far.digits digit)

-- a byte that is not a digit
pub no_digit : (cs : List ℕ) (i d : ℕ) → i < length cs → is_ascii_digit (get_or cs i d) ≡ false → all_ascii_digits cs ≡ false
no_digit cs i d within other = grind (arith, cases_Bool (all_ascii_digits cs), digit_at)

-- the decimal form of a number is read as it
pub number_round_trip : (bound n : ℕ) → bound ≤ 10 ^ 19 → n < bound → number_below bound (decimal n) ≡ Some n
number_round_trip bound n fits small =
    let value : value_from 0 (decimal n) ≡ n = digits_value-decimal own n (omega arith) in
    let below : nat_lt n bound ≡ true = lt-ltb n bound small in
    let same : bytes_eq (decimal n) (decimal n) ≡ true = (bytes_eq-Decides (decimal n) (decimal n)).1 refl in
    rw (value, below, same) refl

-- a text that is read as a number is its decimal form
pub number_found : (bound : ℕ) (text : List ℕ) (n : ℕ) → number_below bound text ≡ Some n → (n < bound) × (text ≡ decimal n)
number_found bound text n e =
    let test = cond_some _ (value_from 0 text) n e in
    let parts = and_parts _ _ test.0 in
    let below : value_from 0 text < bound = ltb-true _ _ parts.0 in
    (omega (arith, below, test.1), (bytes_eq-Decides text (decimal (value_from 0 text))).0 parts.1 ∙ ap decimal test.1)

pub all_digits : (n : ℕ) → n < 10 ^ 19 → all_ascii_digits (decimal n) ≡ true
all_digits n small = digits_decimal own n (omega arith)

unsigned : (text : List ℕ) (n : ℕ) → all_ascii_digits text ≡ true → 0 < length text → number_below (10 ^ 18) text ≡ Some n → int_of text ≡ Some (pos n)
unsigned [] n digits some e = absurd (omega (arith, some))
unsigned (c ∷ cs) n digits some e =
    grind (arith, cases_Bool (nat_eq c 45), nat_eq c 45, eqb-true, and_parts (is_ascii_digit c) (all_ascii_digits cs) digits)

nonzero : (n : ℕ) → nat_eq (suc n) 0 ≡ false
nonzero n = ne_eqb (suc n) 0 (λ e. omega (arith, e))

-- the decimal form of an integer is read as it
pub int_round_trip : (v : ℤ) → nat_abs v < 10 ^ 18 → int_of (signed_decimal v) ≡ Some v
int_round_trip (pos n) small = unsigned (decimal n) n (all_digits n (omega arith)) (decimal_nonempty n (omega arith)) (number_round_trip (10 ^ 18) n (omega arith) small)
int_round_trip (negsuc n) small = rw (number_round_trip (10 ^ 18) (suc n) (omega arith) small, nonzero n) refl

signed : (n : ℕ) (v : ℤ) → n < 10 ^ 18 → minus n ≡ Some v → (nat_abs v < 10 ^ 18) × (45 ∷ decimal n ≡ signed_decimal v)
signed zero v small e = cc
signed (suc m) v small e = let given : Some (negsuc m) ≡ Some v = rw (nonzero m) at e in let is : negsuc m ≡ v = cc in rw (← is) (small, refl)

-- a text that is read as an integer is its decimal form
pub int_found : (text : List ℕ) (v : ℤ) → int_of text ≡ Some v → IsInt v × (text ≡ signed_decimal v)
int_found [] v e = cc
int_found (c ∷ cs) v e = elim (cases_Bool (nat_eq c 45)) [
  | inl t ↦
      let read : option_and_then minus (number_below (10 ^ 18) cs) ≡ Some v = rw t at e in
      let found = and_then_some minus (number_below (10 ^ 18) cs) v read in
      let number = number_found (10 ^ 18) cs found.0 found.1 in
      let whole = signed found.0 v number.0 found.2 in
      (whole.0, ap (λ b. b ∷ cs) (eqb-true c 45 t) ∙ ap (λ l. 45 ∷ l) number.1 ∙ whole.1)
  | inr f ↦
      let read : option_map pos (number_below (10 ^ 18) (c ∷ cs)) ≡ Some v = rw f at e in
      let found = map_some pos (number_below (10 ^ 18) (c ∷ cs)) v read in
      let number = number_found (10 ^ 18) (c ∷ cs) found.0 found.1 in
      rw (← found.2) (number.0, number.1)
]

none_unless : {A : Type 0} (o : Option A) → ((a : A) → o ≡ Some a → ⊥) → None ≡ o
none_unless None h = refl
none_unless (Some a) h = absurd (h a refl)

pub limit_none : (text : List ℕ) → ((n : ℕ) → IsLimit n → text ≡ decimal n → ⊥) → None ≡ limit_in text
limit_none text h = none_unless (limit_in text) (λ n e. let found = number_found (10 ^ 19) text n e in h n found.0 found.1)

pub limit_some : (text : List ℕ) (n : ℕ) → IsLimit n → text ≡ decimal n → Some n ≡ limit_in text
limit_some text n small is = rw is (sym (number_round_trip (10 ^ 19) n (omega arith) small))

-- ---- digits of a limit

-- so few digits fit
pub fits : (i value : ℕ) → value < 10 ^ i → i ≤ 18 → 10 * value + 9 < 10 ^ 19
fits i value small count_within_max =
    let upper_bound : 10 ^ i ≤ 10 ^ 18 = pow-le-pow_right (omega arith) count_within_max in
    omega (arith, small, upper_bound)

-- after the last digit
pub all_read : (cs : List ℕ) (i value : ℕ) → IsValueOf cs i value → length cs ≤ i → i ≤ length cs → (value ≡ value_from 0 cs) × (value < 10 ^ length cs) × (all_ascii_digits cs ≡ true)
all_read cs i value so_far end within =
    let same : i ≡ length cs = omega (arith, end, within) in
    let whole : take i cs ≡ cs = take_all i cs end in
    (so_far.value_is ∙ ap (value_from 0) whole, subst (λ k. value < 10 ^ k) same so_far.small, sym (ap all_ascii_digits whole) ∙ so_far.digits)

-- digits after digits
value_joined : (n : ℕ) (front rest : List ℕ) → value_from n (front ++ rest) ≡ value_from (value_from n front) rest
value_joined n [] rest = refl
value_joined n (c ∷ cs) rest = value_joined (10 * n + (c - 48)) cs rest

associated : (u v w : Bool) → (u && (v && w)) ≡ ((u && v) && w)
associated true v w = refl
associated false v w = refl

digits_joined : (front rest : List ℕ) → all_ascii_digits (front ++ rest) ≡ (all_ascii_digits front && all_ascii_digits rest)
digits_joined [] rest = refl
digits_joined (c ∷ cs) rest = ap (λ v. is_ascii_digit c && v) (digits_joined cs rest) ∙ associated (is_ascii_digit c) (all_ascii_digits cs) (all_ascii_digits rest)

-- the parts of a number of which the last two have eight digits
pub value_of_three : (number front last middle end : List ℕ) → number ≡ front ++ last → last ≡ middle ++ end → value_from 0 number ≡ value_from (value_from (value_from 0 front) middle) end
value_of_three number front last middle end one two =
    ap (value_from 0) one ∙ value_joined 0 front last ∙ ap (value_from (value_from 0 front)) two ∙ value_joined (value_from 0 front) middle end

pub digits_of_three : (number front last middle end : List ℕ) → number ≡ front ++ last → last ≡ middle ++ end
    → all_ascii_digits number ≡ (all_ascii_digits front && (all_ascii_digits middle && all_ascii_digits end))
digits_of_three number front last middle end one two =
    ap all_ascii_digits one ∙ digits_joined front last ∙ ap (λ v. all_ascii_digits front && v) (ap all_ascii_digits two ∙ digits_joined middle end)

-- the two parts of bytes that were split
pub parted : (n : ℕ) (bytes front rest : List ℕ) → front ≡ take n bytes → rest ≡ drop n bytes → bytes ≡ front ++ rest
parted n bytes front rest one two = sym (take-append-drop n bytes) ∙ ap₂ (λ a b. a ++ b) (sym one) (sym two)

pub otherwise : (r : Option ℕ) (P : Type 0) → P → IfNone r P
otherwise None P p = p
otherwise (Some n) P p = tt

pub below_thousand : (cs : List ℕ) (n : ℕ) → length cs ≤ 3 → n < 10 ^ length cs → n + 1 ≤ 10 ^ 3
below_thousand cs n few small =
    let upper_bound : 10 ^ length cs ≤ 10 ^ 3 = pow-le-pow_right (omega arith) few in
    omega (arith, small, upper_bound)

pub long_found : (number front last middle end : List ℕ) (high next : ℕ) (r : Option ℕ) → number ≡ front ++ last → last ≡ middle ++ end → high + 1 ≤ 10 ^ 3
    → (high ≡ value_from 0 front) × (all_ascii_digits front ≡ true)
    → (next ≡ value_from high middle) × (next < (high + 1) * 10 ^ 8) × (all_ascii_digits middle ≡ true)
    → IfSome r (λ n. (n ≡ value_from next end) × (n < (next + 1) * 10 ^ 8) × (all_ascii_digits end ≡ true))
    → IfSome r (λ n. (n ≡ value_from 0 number) × (n < 10 ^ 19) × (all_ascii_digits number ≡ true))
long_found number front last middle end high next None one two few first second third = third
long_found number front last middle end high next (Some n) one two few first second third =
    let next_is : next ≡ value_from (value_from 0 front) middle = second.0 ∙ ap (λ k. value_from k middle) first.0 in
    let value = third.0 ∙ ap (λ k. value_from k end) next_is ∙ sym (value_of_three number front last middle end one two) in
    let digits : all_ascii_digits number ≡ true =
    digits_of_three number front last middle end one two ∙ rw (first.1, second.2, third.2) refl in
    (value, omega (arith, few, second.1, third.1), digits)

-- one of the parts has another byte
pub no_front : (number front last middle end : List ℕ) → number ≡ front ++ last → last ≡ middle ++ end → all_ascii_digits front ≡ false → all_ascii_digits number ≡ false
no_front number front last middle end one two other = digits_of_three number front last middle end one two ∙ rw other refl

false_second : (u v : Bool) → (u && (false && v)) ≡ false
false_second true v = refl
false_second false v = refl

false_third : (u v : Bool) → (u && (v && false)) ≡ false
false_third true true = refl
false_third true false = refl
false_third false v = refl

pub no_middle : (number front last middle end : List ℕ) → number ≡ front ++ last → last ≡ middle ++ end → all_ascii_digits middle ≡ false → all_ascii_digits number ≡ false
no_middle number front last middle end one two other =
    digits_of_three number front last middle end one two ∙ ap (λ v. all_ascii_digits front && (v && all_ascii_digits end)) other ∙ false_second (all_ascii_digits front) (all_ascii_digits end)

pub no_end : (number front last middle end : List ℕ) → number ≡ front ++ last → last ≡ middle ++ end → all_ascii_digits end ≡ false → all_ascii_digits number ≡ false
no_end number front last middle end one two other =
    digits_of_three number front last middle end one two ∙ ap (λ v. all_ascii_digits front && (all_ascii_digits middle && v)) other ∙ false_third (all_ascii_digits front) (all_ascii_digits middle)

pub long_none : (number front last middle end : List ℕ) (r : Option ℕ) → number ≡ front ++ last → last ≡ middle ++ end → IfNone r (all_ascii_digits end ≡ false) → IfNone r (all_ascii_digits number ≡ false)
long_none number front last middle end None one two other = no_end number front last middle end one two other
long_none number front last middle end (Some n) one two other = other

pub too_long : (word : List ℕ) → 19 < length word → None ≡ limit_in word
too_long word long = limit_none word (λ n small is. omega (arith, long, ap length is, length-decimal-le 19 n (omega arith) small (omega arith)))

pub empty_word : (word : List ℕ) → length word ≡ 0 → None ≡ limit_in word
empty_word word none = limit_none word (λ n small is. omega (arith, none, ap length is, decimal_nonempty n (omega arith)))

pub zero_alone : (word : List ℕ) → length word ≡ 1 → get_or word 0 0 ≡ 48 → Some 0 ≡ limit_in word
zero_alone (c ∷ []) one first = limit_some (c ∷ []) 0 (omega arith) (ap (λ b. b ∷ []) first ∙ sym (decimal-digits_value own (48 ∷ []) refl (omega arith) (λ e. refl) (omega arith)))
zero_alone _ one first = absurd (omega (arith, one))

pub zero_in_front : (word : List ℕ) → 1 < length word → get_or word 0 0 ≡ 48 → None ≡ limit_in word
zero_in_front word long first = limit_none word (λ n small is. refuted n small is)
  where
    refuted : (n : ℕ) → n < 10 ^ 19 → word ≡ decimal n → ⊥
    refuted zero small is = omega (arith, long, ap length is, length-decimal-le 1 0 (omega arith) (omega arith) (omega arith))
    refuted (suc m) small is = omega (arith, first, ap (λ w. get_or w 0 0) is, first_decimal (suc m) (omega arith) (omega arith))

pub by_digits : (word : List ℕ) (r : Option ℕ) → IfSome r (λ n. (n ≡ value_from 0 word) × (n < 10 ^ 19) × (all_ascii_digits word ≡ true)) → IfNone r (all_ascii_digits word ≡ false)
    → 0 < length word → (get_or word 0 0 ≡ 48 → ⊥) → r ≡ limit_in word
by_digits word None found other some first = limit_none word (λ n small is. let digits : all_ascii_digits word ≡ true = rw is (all_digits n small) in cc)
by_digits word (Some n) found other some first =
    limit_some word n found.1 (sym (ap decimal found.0 ∙ decimal-digits_value own word found.2 some (λ e. absurd (first e)) (omega (arith, found.0, found.1))))
