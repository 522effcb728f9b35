-- Sums over lists of hands, and over the numbers below a word.
use Rattle.std.proofs.Common.{◌≡◌, ℕ, zero, suc, ◌+◌, ◌-◌, ◌<◌, ◌≤◌, ◌⊎◌, cond, eqb, leb, List, [], ◌∷◌, ◌++◌, length, get_or, set, sym, refl, ap, ⊎_elim, arith, sum_by, le-leb, eq-eqb, ne_eqb}
use mathlib.Core.Option.{some, some-injective, some-ne-none}
use lib.ListN.{get_elem?}
use borrow.Author.Tests.{lt-leb}
use Rattle.std.proofs.lemmas.Bool.{cases_lt}
use Rattle.std.proofs.lemmas.List.Sums.{sum_by-cons, sum_by_push, get_or-le-sum_by}
use Rattle.esr_board.specs.Claims.{times, count_past, below}

-- the sum after a change of one
pub sum_set : {X : Type 0} (f : X → ℕ) (l : List X) (i : ℕ) (v w : X) → get_elem? l i ≡ some v → sum_by f (set l i w) + f v ≡ sum_by f l + f w
sum_set f [] i v w e = absurd (some-ne-none v (sym e))
sum_set f (x ∷ xs) zero v w e = let is : f x ≡ f v = ap f (some-injective x v e) in omega (arith, sum_by-cons f w xs, sum_by-cons f x xs)
sum_set f (x ∷ xs) (suc i) v w e = let r = sum_set f xs i v w e in omega (arith, sum_by-cons f x (set xs i w), sum_by-cons f x xs)

-- one of them is at most the sum
pub part_le : {X : Type 0} (f : X → ℕ) (l : List X) (i : ℕ) (v : X) → get_elem? l i ≡ some v → f v ≤ sum_by f l
part_le f [] i v e = absurd (some-ne-none v (sym e))
part_le f (x ∷ xs) zero v e = let is : f x ≡ f v = ap f (some-injective x v e) in omega (arith, sum_by-cons f x xs)
part_le f (x ∷ xs) (suc i) v e = let r = part_le f xs i v e in omega (arith, sum_by-cons f x xs)

pub ones : {X : Type 0} (xs : List X) → sum_by (λ _. 1) xs ≡ length xs
ones [] = refl
ones (x ∷ xs) = let r = ones xs in omega (arith, sum_by-cons (λ _. 1) x xs)

pub length-below : (n : ℕ) → length (below n) ≡ n
length-below zero = refl
length-below (suc n) = let r = length-below n in omega (arith, Rattle.std.proofs.Common.length-append (below n) (n ∷ []))

pub past_yes : (jobs n : ℕ) → jobs ≤ n → cond {A = ℕ} (leb jobs n) 1 0 ≡ 1
past_yes jobs n h = ap (λ b. cond {A = ℕ} b 1 0) (le-leb jobs n h)

pub past_no : (jobs n : ℕ) → n < jobs → cond {A = ℕ} (leb jobs n) 1 0 ≡ 0
past_no jobs n h = ap (λ b. cond {A = ℕ} b 1 0) (lt-leb jobs n h)

pub count_past_push : (jobs : ℕ) (xs : List ℕ) (n : ℕ) → count_past jobs (xs ++ n ∷ []) ≡ count_past jobs xs + cond {A = ℕ} (leb jobs n) 1 0
count_past_push jobs xs n = sum_by_push (λ x. cond {A = ℕ} (leb jobs x) 1 0) xs n

pub count_past-below : (jobs n : ℕ) → count_past jobs (below n) ≡ n - jobs
count_past-below jobs zero = sym (Rattle.std.proofs.Common.sub-eq-zero_of_le (Rattle.std.proofs.Common.zero-le))
count_past-below jobs (suc n) = let r = count_past-below jobs n in let p = count_past_push jobs (below n) n in
    ⊎_elim (λ (h : n < jobs). let z = past_no jobs n h in omega arith) (λ (h : jobs ≤ n). let z = past_yes jobs n h in omega arith) (cases_lt n jobs)

times_push : (n : ℕ) (xs : List ℕ) (m : ℕ) → times n (xs ++ m ∷ []) ≡ times n xs + cond {A = ℕ} (eqb m n) 1 0
times_push n xs m = sum_by_push (λ x. cond {A = ℕ} (eqb x n) 1 0) xs m

-- no number from the word on is below it
pub times-below-none : (n word : ℕ) → word ≤ n → times n (below word) ≡ 0
times-below-none n zero h = refl
times-below-none n (suc word) h = let r = times-below-none n word (omega arith) in let p = times_push n (below word) word in
    let ne : ¬ (word ≡ n) = λ e. omega arith in let z : cond {A = ℕ} (eqb word n) 1 0 ≡ 0 = ap (λ b. cond {A = ℕ} b 1 0) (ne_eqb word n ne) in omega arith

pub times-below-one : (n word : ℕ) → n < word → times n (below word) ≡ 1
times-below-one n zero h = absurd (omega arith)
times-below-one n (suc word) h = let p = times_push n (below word) word in
    ⊎_elim (λ (l : n < word). let r = times-below-one n word l in let ne : ¬ (word ≡ n) = λ e. omega arith in let z : cond {A = ℕ} (eqb word n) 1 0 ≡ 0 = ap (λ b. cond {A = ℕ} b 1 0) (ne_eqb word n ne) in omega arith)
    (λ (g : word ≤ n). let r = times-below-none n word g in let e : word ≡ n = omega arith in let z : cond {A = ℕ} (eqb word n) 1 0 ≡ 1 = ap (λ b. cond {A = ℕ} b 1 0) (eq-eqb word n e) in omega arith) (cases_lt n word)

-- an element is in its list
pub times_at : (xs : List ℕ) (k d : ℕ) → k < length xs → 1 ≤ times (get_or xs k d) xs
times_at xs k d h = let x : ℕ = get_or xs k d in let r = get_or-le-sum_by (λ y. cond {A = ℕ} (eqb y x) 1 0) xs k d h in
    let z : cond {A = ℕ} (eqb x x) 1 0 ≡ 1 = ap (λ b. cond {A = ℕ} b 1 0) (eq-eqb x x refl) in omega arith
