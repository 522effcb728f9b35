-- How many receipts have a place, and how many have any place below a number.
use Rattle.std.proofs.Common.{◌≡◌, ◌≢◌, ◌⊎◌, inl, inr, ℕ, zero, suc, ◌+◌, ◌<◌, ◌≤◌, Bool, true, false, cond, eqb, List, [], ◌∷◌, ◌++◌, All, length, length-append, refl, ap, ◌∙◌, arith}
use Rattle.std.proofs.lemmas.List.Sums.{sum_by-append}
use Rattle.std.proofs.lemmas.Bool.Decides.{nat_tests}
use Rattle.esr_session.specs.Receipts.{count_at, count_in, receipts_in, Receipt}

eq_by : (a b : ℕ) (t : Bool) → eqb a b ≡ t → (a ≡ b) ⊎ (a ≢ b)
eq_by a b true h = inl (grind (arith, nat_tests))
eq_by a b false h = inr (grind (arith, nat_tests))

pub eq_or_not : (a b : ℕ) → (a ≡ b) ⊎ (a ≢ b)
eq_or_not a b = eq_by a b (eqb a b) refl

-- 1 for the same number, else 0
abbrev pub one : ℕ → ℕ → ℕ
one a k = cond (eqb a k) 1 0

pub one_same : (a k : ℕ) → a ≡ k → one a k ≡ 1
one_same a k h = grind (arith, nat_tests)

pub one_other : (a k : ℕ) → a ≢ k → one a k ≡ 0
one_other a k h = grind (arith, nat_tests)

pub count_at-append : (k : ℕ) (xs ys : List Receipt) → count_at k (xs ++ ys) ≡ count_at k xs + count_at k ys
count_at-append k xs ys = sum_by-append (λ (r : Receipt). cond (eqb r.at k) 1 0) xs ys

pub count_at-cons : (k : ℕ) (r : Receipt) (rs : List Receipt) → count_at k (r ∷ rs) ≡ cond (eqb r.at k) 1 0 + count_at k rs
count_at-cons k r rs = omega (arith, count_at-append k (r ∷ []) rs)

pub length_receipts : (lists : List (List Receipt)) → length (receipts_in lists) ≡ count_in lists
length_receipts [] = refl
length_receipts (rs ∷ lists) =
    omega (arith, length-append rs (receipts_in lists), length_receipts lists, sum_by-append length (rs ∷ []) lists)

-- f 0 + f 1 + .. up to n
abbrev pub upto : (ℕ → ℕ) → ℕ → ℕ
upto f zero = 0
upto f (suc n) = upto f n + f n

upto-add : (f g : ℕ → ℕ) (n : ℕ) → upto (λ k. f k + g k) n ≡ upto f n + upto g n
upto-add f g zero = refl
upto-add f g (suc n) = omega (arith, upto-add f g n)

upto-same : (f g : ℕ → ℕ) (n : ℕ) → ((k : ℕ) → f k ≡ g k) → upto f n ≡ upto g n
upto-same f g zero h = refl
upto-same f g (suc n) h = omega (arith, upto-same f g n h, h n)

upto-zero : (n : ℕ) → upto (λ k. 0) n ≡ 0
upto-zero zero = refl
upto-zero (suc n) = omega (arith, upto-zero n)

upto-below : (a n : ℕ) → n ≤ a → upto (λ k. cond (eqb a k) 1 0) n ≡ 0
upto-below a zero le = refl
upto-below a (suc n) le = omega (arith, upto-below a n (omega arith), one_other a n (λ e. omega (arith, e)))

upto-above : (a n : ℕ) → a < n → upto (λ k. cond (eqb a k) 1 0) n ≡ 1
upto-above a zero lt = absurd (omega arith)
upto-above a (suc n) lt =
    elim (eq_or_not a n) [ inl e ↦ omega (arith, upto-below a n (omega arith), one_same a n e) | inr ne ↦ omega (arith, upto-above a n (omega arith), one_other a n ne) ]

pub upto-count : (rs : List Receipt) (n : ℕ) → All (λ (r : Receipt). r.at < n) rs → upto (λ k. count_at k rs) n ≡ length rs
upto-count [] n h = upto-zero n
upto-count (r ∷ rs) n h =
    let tail : All (λ (s : Receipt). s.at < n) rs = λ k d lt. h (suc k) d (omega arith) in
    let here : r.at < n = h 0 r (omega arith) in
    let s = upto-same (λ k. count_at k (r ∷ rs)) (λ k. cond (eqb r.at k) 1 0 + count_at k rs) n (λ k. count_at-cons k r rs) in
    let a = upto-add (λ k. cond (eqb r.at k) 1 0) (λ k. count_at k rs) n in
    omega (arith, s, a, upto-above r.at n here, upto-count rs n tail)

pub upto-ones : (f : ℕ → ℕ) (n : ℕ) → ((k : ℕ) → k < n → f k ≡ 1) → upto f n ≡ n
upto-ones f zero h = refl
upto-ones f (suc n) h = omega (arith, upto-ones f n (λ k lt. h k (omega arith)), h n (omega arith))

upto-upper_bound : (f : ℕ → ℕ) (n : ℕ) → ((k : ℕ) → f k ≤ 1) → upto f n ≤ n
upto-upper_bound f zero h = omega arith
upto-upper_bound f (suc n) h = omega (arith, upto-upper_bound f n h, h n)

-- n numbers of at most 1 that add up to n are each 1
pub upto-each : (f : ℕ → ℕ) (n : ℕ) → ((k : ℕ) → f k ≤ 1) → n ≤ upto f n → (k : ℕ) → k < n → f k ≡ 1
upto-each f zero h all k lt = absurd (omega arith)
upto-each f (suc n) h all k lt =
    let m = upto-upper_bound f n h in
    elim (eq_or_not k n) [ inl e ↦ ap f e ∙ omega (arith, all, m, h n) | inr ne ↦ upto-each f n h (omega (arith, all, m, h n)) k (omega arith) ]
