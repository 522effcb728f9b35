-- Numbers of which none occurs twice: a sorted copy ascends, and there are no more than the greatest.
use Rattle.std.proofs.Common.{◌≡◌, ℕ, zero, suc, ◌+◌, ◌≤◌, ◌<◌, List, [], ◌∷◌, Bool, true, false, not, ◌&&◌, eqb, ltb, leb, refl, sym, ap, ◌∙◌, inl, inr, arith, length, get_or, sum_by, true≢false, lt-ltb, ltb-true, leb-true, eq-eqb}
use Rattle.std.specs.List.{list_all}
use Rattle.std.specs.List.Sorted.{IsPermutation, IsNonDecreasingBy}
use Rattle.std.proofs.lemmas.Bool.{and_parts, and_from, or_parts, or_cases, cases_Bool, cases_eq, eqb-true, eqb-false, not-true, not_from_false}
use Rattle.std.proofs.lemmas.List.Sums.{sum_by-cons}
use Rattle.std.proofs.lemmas.List.Sorted.{sum_by-IsPermutation}
use Rattle.esr_cert.specs.Problem.{in_set, is_strictly_ascending, is_distinct}
use Rattle.esr_cert.proofs.Cut.{pick, node_sum, node_sum_add, node_sum_zero, node_sum_point}
use Rattle.esr_cert.proofs.Search.{ascending_far, ascending_place, not_in_set}

-- tests that imply one another
pub same_tests : (a b : Bool) → (a ≡ true → b ≡ true) → (b ≡ true → a ≡ true) → a ≡ b
same_tests true b f g = sym (f refl)
same_tests false true f g = g refl
same_tests false false f g = refl

pub all_at : {X : Type 0} (p : X → Bool) (xs : List X) → list_all p xs ≡ true → (i : ℕ) (d : X) → i < length xs → p (get_or xs i d) ≡ true
all_at p [] h i d l = absurd (omega arith)
all_at p (x ∷ xs) h zero d l = (and_parts (p x) (list_all p xs) h).0
all_at p (x ∷ xs) h (suc i) d l = all_at p xs (and_parts (p x) (list_all p xs) h).1 i d (omega arith)

-- how often a number occurs in a list
abbrev times : ℕ → List ℕ → ℕ
times u [] = 0
times u (x ∷ xs) = pick (eqb x u) 1 + times u xs

times_sum : (u : ℕ) (xs : List ℕ) → times u xs ≡ sum_by (λ x. pick (eqb x u) 1) xs
times_sum u [] = refl
times_sum u (x ∷ xs) = omega (arith, times_sum u xs, sum_by-cons (λ y. pick (eqb y u) 1) x xs)

none_times : (u : ℕ) (xs : List ℕ) → in_set xs u ≡ false → times u xs ≡ 0
none_times u [] h = refl
none_times u (x ∷ xs) h =
    let both : (eqb x u ≡ false) × (in_set xs u ≡ false) = or_parts (eqb x u) (in_set xs u) h in
    omega (arith, ap (λ b. pick b 1) both.0, none_times u xs both.1)

some_times : (u : ℕ) (xs : List ℕ) → in_set xs u ≡ true → 1 ≤ times u xs
some_times u [] h = absurd (true≢false (sym h))
some_times u (x ∷ xs) h =
    let later : in_set xs u ≡ true → 1 ≤ times u xs = λ r. some_times u xs r in
    elim (or_cases (eqb x u) (in_set xs u) h) [ inl e ↦ omega (arith, ap (λ b. pick b 1) e) | inr r ↦ omega (arith, later r) ]

distinct_times : (xs : List ℕ) → is_distinct xs ≡ true → (u : ℕ) → times u xs ≤ 1
distinct_times [] h u = omega arith
distinct_times (x ∷ xs) h u =
    let both : (not (in_set xs x) ≡ true) × (is_distinct xs ≡ true) = and_parts (not (in_set xs x)) (is_distinct xs) h in
    let rest : times u xs ≤ 1 = distinct_times xs both.1 u in
    elim (cases_Bool (eqb x u)) [
      | inl e ↦
          let none : times u xs ≡ 0 = none_times u xs (ap (in_set xs) (sym (eqb-true x u e)) ∙ not-true (in_set xs x) both.0) in
          omega (arith, ap (λ b. pick b 1) e)
      | inr e ↦ omega (arith, ap (λ b. pick b 1) e)
    ]

times_distinct : (xs : List ℕ) → ((u : ℕ) → times u xs ≤ 1) → is_distinct xs ≡ true
times_distinct [] h = refl
times_distinct (x ∷ xs) h = and_from (not (in_set xs x)) (is_distinct xs) (alone (in_set xs x) refl) (times_distinct xs (λ u. omega (arith, h u)))
  where
    alone : (b : Bool) → in_set xs x ≡ b → not b ≡ true
    alone false e = refl
    alone true e = absurd (omega (arith, h x, some_times x xs e, ap (λ b. pick b 1) (eq-eqb x x refl)))

ascending_distinct : (xs : List ℕ) → is_strictly_ascending xs ≡ true → is_distinct xs ≡ true
ascending_distinct [] h = refl
ascending_distinct (x ∷ []) h = refl
ascending_distinct (x ∷ y ∷ rest) h =
    and_from (not (in_set (y ∷ rest) x)) (is_distinct (y ∷ rest))
    (not_from_false (in_set (y ∷ rest) x) (not_in_set (y ∷ rest) x (λ k l e. omega (arith, ascending_far (x ∷ y ∷ rest) h 0 (suc k) (omega arith) (omega arith)))))
    (ascending_distinct (y ∷ rest) (and_parts (ltb x y) (is_strictly_ascending (y ∷ rest)) h).1)

distinct_ascending : (xs : List ℕ) → IsNonDecreasingBy (λ x. x) xs → is_distinct xs ≡ true → is_strictly_ascending xs ≡ true
distinct_ascending [] r h = refl
distinct_ascending (x ∷ []) r h = refl
distinct_ascending (x ∷ y ∷ rest) r h =
    let both : (not (in_set (y ∷ rest) x) ≡ true) × (is_distinct (y ∷ rest) ≡ true) = and_parts (not (in_set (y ∷ rest) x)) (is_distinct (y ∷ rest)) h in
    let apart : eqb y x ≡ false = (or_parts (eqb y x) (in_set rest x) (not-true (in_set (y ∷ rest) x) both.0)).0 in
    let ne : y ≡ x → ⊥ = eqb-false y x apart in
    let le : x ≤ y = r 0 1 0 (omega arith) (omega arith) in
    let lt : x < y = elim (cases_eq y x) [ inl e ↦ absurd (ne e) | inr n ↦ grind arith ] in
    and_from (ltb x y) (is_strictly_ascending (y ∷ rest)) (lt-ltb x y lt) (distinct_ascending (y ∷ rest) (λ i j d l m. r (suc i) (suc j) d (omega arith) (omega arith)) both.1)

distinct_moved : (xs ys : List ℕ) → IsPermutation xs ys → is_distinct xs ≡ is_distinct ys
distinct_moved xs ys p =
    let same : (u : ℕ) → times u ys ≡ times u xs = λ u. times_sum u ys ∙ sum_by-IsPermutation (λ x. pick (eqb x u) 1) xs ys p ∙ sym (times_sum u xs) in
    same_tests (is_distinct xs) (is_distinct ys)
    (λ h. times_distinct ys (λ u. omega (arith, same u, distinct_times xs h u)))
    (λ h. times_distinct xs (λ u. omega (arith, same u, distinct_times ys h u)))

-- a sorted copy ascends strictly if and only if no number occurs twice
pub sorted_copy : (xs ys : List ℕ) → IsPermutation xs ys → IsNonDecreasingBy (λ x. x) ys → is_strictly_ascending ys ≡ is_distinct xs
sorted_copy xs ys p r = same_tests (is_strictly_ascending ys) (is_distinct ys) (ascending_distinct ys) (distinct_ascending ys r) ∙ sym (distinct_moved xs ys p)

-- ---- how many there can be

-- each number is among those below n
count_all : (n : ℕ) (xs : List ℕ) → ((i : ℕ) → i < length xs → get_or xs i 0 < n) → node_sum (λ v. true) (λ v. times v xs) n ≡ length xs
count_all n [] h = node_sum_zero (λ v. true) (λ v. 0) n (λ v l. refl)
count_all n (x ∷ xs) h =
    omega (
      arith,
      node_sum_add (λ v. true) (λ v. pick (eqb x v) 1) (λ v. times v xs) n,
      node_sum_point (λ v. true) x 1 n (h 0 (omega arith)),
      count_all n xs (λ i l. h (suc i) (omega arith)),
    )

at_most_one : (g : ℕ → ℕ) (n : ℕ) → ((v : ℕ) → g v ≤ 1) → g 0 ≡ 0 → node_sum (λ v. true) g (suc n) ≤ n
at_most_one g zero h z = omega (arith, z)
at_most_one g (suc n) h z = omega (arith, h (suc n), at_most_one g n h z)

-- distinct numbers from 1 to n are at most n
pub distinct_bounded : (n : ℕ) (xs : List ℕ) → is_distinct xs ≡ true → list_all (λ t. ltb 0 t && leb t n) xs ≡ true → length xs ≤ n
distinct_bounded n xs d r =
    let range : (i : ℕ) → i < length xs → (0 < get_or xs i 0) × (get_or xs i 0 ≤ n) =
    λ i l. let b : (ltb 0 (get_or xs i 0) ≡ true) × (leb (get_or xs i 0) n ≡ true) = and_parts (ltb 0 (get_or xs i 0)) (leb (get_or xs i 0) n) (all_at (λ t. ltb 0 t && leb t n) xs r i 0 l) in (ltb-true 0 (get_or xs i 0) b.0, leb-true (get_or xs i 0) n b.1) in
    let none : times 0 xs ≡ 0 = none_times 0 xs (not_in_set xs 0 (λ k l e. omega (arith, (range k l).0))) in
    omega (arith, count_all (suc n) xs (λ i l. omega (arith, (range i l).1)), at_most_one (λ v. times v xs) n (distinct_times xs d) none)

-- ascending numbers below n are at most n
pub ascending_bounded : (n : ℕ) (xs : List ℕ) → is_strictly_ascending xs ≡ true → list_all (λ t. ltb t n) xs ≡ true → length xs ≤ n
ascending_bounded n xs h r = go (length xs) refl
  where
    go : (k : ℕ) → length xs ≡ k → length xs ≤ n
    go zero e = omega arith
    go (suc k) e = omega (arith, ascending_place xs h k (omega arith), ltb-true (get_or xs k 0) n (all_at (λ t. ltb t n) xs r k 0 (omega arith)))
