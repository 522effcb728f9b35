-- A sorted list is the one that placing its numbers in ascending order gives: its last number is the greatest.
use Rattle.std.proofs.Common.{◌≡◌, ℕ, suc, ◌+◌, ◌-◌, ◌/◌, ◌<◌, ◌≤◌, List, [], ◌∷◌, true, false, cond, leb, max, refl, ◌∙◌, ap, ap₂, sym, arith, inl, inr, get_or, length}
use Rattle.std.specs.List.{sum_by}
use Rattle.std.specs.List.Sorted.{IsPermutation, IsNonDecreasingBy, IsSorted}
use Rattle.std.specs.Ordering.{nat_cmp}
use Rattle.std.proofs.lemmas.Bool.{cases_Bool, cases_lt, leb-false, leb-true}
use Rattle.std.proofs.lemmas.List.Sorted.{IsNonDecreasingBy-from_sort, length_permutation, sum_by-IsPermutation}
use Rattle.std.proofs.lemmas.List.Sums.{sum_by-cons}
use Rattle.esr_explore.specs.Columns.{ascending, median, placed}
use Rattle.esr_explore.specs.Severity.{greatest}

-- no number of the list is below this one
abbrev pub AtLeast : ℕ → List ℕ → Type 0
AtLeast n [] = Unit {0}
AtLeast n (m ∷ ms) = (n ≤ m) × AtLeast n ms

abbrev pub IsRising : List ℕ → Type 0
IsRising [] = Unit {0}
IsRising (n ∷ ns) = AtLeast n ns × IsRising ns

at_least_lower : (n m : ℕ) (ns : List ℕ) → n ≤ m → AtLeast m ns → AtLeast n ns
at_least_lower n m [] le all = tt
at_least_lower n m (k ∷ ns) le all = (omega (arith, le, all.0), at_least_lower n m ns le all.1)

at_least_from : (n : ℕ) (ns : List ℕ) → ((k : ℕ) → k < length ns → n ≤ get_or ns k 0) → AtLeast n ns
at_least_from n [] all = tt
at_least_from n (m ∷ ns) all = (all 0 (omega arith), at_least_from n ns (λ k lt. all (suc k) (omega (arith, lt))))

rising_from : (ns : List ℕ) → ((i j : ℕ) → i ≤ j → j < length ns → get_or ns i 0 ≤ get_or ns j 0) → IsRising ns
rising_from [] up = tt
rising_from (n ∷ ns) up = (
  at_least_from n ns (λ k lt. up 0 (suc k) (omega arith) (omega (arith, lt))),
  rising_from ns (λ i j le lt. up (suc i) (suc j) (omega (arith, le)) (omega (arith, lt))),
)

at_least_placed : (m n : ℕ) (ns : List ℕ) → m ≤ n → AtLeast m ns → AtLeast m (placed n ns)
at_least_placed m n [] le all = (le, tt)
at_least_placed m n (k ∷ ns) le all = elim (cases_Bool (leb n k)) [
  | inl e ↦ rw e (le, all)
  | inr e ↦ rw e (all.0, at_least_placed m n ns le all.1)
]

placed_rising : (n : ℕ) (ns : List ℕ) → IsRising ns → IsRising (placed n ns)
placed_rising n [] up = (tt, tt)
placed_rising n (m ∷ ns) up = elim (cases_Bool (leb n m)) [
  | inl e ↦ let le : n ≤ m = leb-true n m e in rw e ((le, at_least_lower n m ns le up.0), up)
  | inr e ↦ let lt : m < n = leb-false n m e in rw e (at_least_placed m n ns (omega (arith, lt)) up.0, placed_rising n ns up.1)
]

ascending_rising : (ns : List ℕ) → IsRising (ascending ns)
ascending_rising [] = tt
ascending_rising (n ∷ ns) = placed_rising n (ascending ns) (ascending_rising ns)

-- placing keeps each sum, and the greatest
sum_placed : (f : ℕ → ℕ) (n : ℕ) (ns : List ℕ) → sum_by f (placed n ns) ≡ f n + sum_by f ns
sum_placed f n [] = sum_by-cons f n []
sum_placed f n (m ∷ ns) = elim (cases_Bool (leb n m)) [
  | inl e ↦ rw e (sum_by-cons f n (m ∷ ns))
  | inr e ↦ rw e (omega (arith, sum_by-cons f m (placed n ns), sum_by-cons f m ns, sum_placed f n ns))
]

sum_ascending : (f : ℕ → ℕ) (ns : List ℕ) → sum_by f (ascending ns) ≡ sum_by f ns
sum_ascending f [] = refl
sum_ascending f (n ∷ ns) = omega (arith, sum_placed f n (ascending ns), sum_ascending f ns, sum_by-cons f n ns)

greatest_placed : (n : ℕ) (ns : List ℕ) → greatest (placed n ns) ≡ max n (greatest ns)
greatest_placed n [] = refl
greatest_placed n (m ∷ ns) = elim (cases_Bool (leb n m)) [
  | inl e ↦ rw e refl
  | inr e ↦ rw e (omega (arith, greatest_placed n ns))
]

greatest_ascending : (ns : List ℕ) → greatest (ascending ns) ≡ greatest ns
greatest_ascending [] = refl
greatest_ascending (n ∷ ns) = omega (arith, greatest_placed n (ascending ns), greatest_ascending ns)

-- the sum of the distances by which numbers are below one above n
abbrev below : ℕ → List ℕ → ℕ
below n ns = sum_by (λ m. (n + 1) - m) ns

none_below : (n m : ℕ) (ns : List ℕ) → n < m → AtLeast m ns → below n ns ≡ 0
none_below n m [] lt all = refl
none_below n m (k ∷ ns) lt all = omega (arith, sum_by-cons (λ j. (n + 1) - j) k ns, none_below n m ns lt all.1, lt, all.0)

-- the first numbers of two rising lists with the same numbers
same_first : (m n : ℕ) (ms ns : List ℕ) → AtLeast n ns → ((f : ℕ → ℕ) → sum_by f (m ∷ ms) ≡ sum_by f (n ∷ ns)) → n ≤ m
same_first m n ms ns all same = elim (cases_lt m n) [
  | inl lt ↦ absurd (omega (arith, same (λ k. (m + 1) - k), sum_by-cons (λ k. (m + 1) - k) m ms, none_below m n (n ∷ ns) lt (omega arith, all)))
  | inr le ↦ le
]

same_rising : (ms ns : List ℕ) → IsRising ms → IsRising ns → ((f : ℕ → ℕ) → sum_by f ms ≡ sum_by f ns) → ms ≡ ns
same_rising [] [] up rise same = refl
same_rising [] (n ∷ ns) up rise same = absurd (omega (arith, same (λ _. 1), sum_by-cons (λ _. 1) n ns))
same_rising (m ∷ ms) [] up rise same = absurd (omega (arith, same (λ _. 1), sum_by-cons (λ _. 1) m ms))
same_rising (m ∷ ms) (n ∷ ns) up rise same =
    let first : m ≡ n = omega (arith, same_first m n ms ns rise.0 same, same_first n m ns ms up.0 (λ f. sym (same f))) in
    ap₂ (λ (k : ℕ) (ks : List ℕ). k ∷ ks) first
    (same_rising ms ns up.1 rise.1 (λ f. omega (arith, same f, sum_by-cons f m ms, sum_by-cons f n ns, ap f first)))

-- the result of a sort
pub sorted_is : (ns sorted : List ℕ) → IsPermutation ns sorted → IsSorted nat_cmp sorted → sorted ≡ ascending ns
sorted_is ns sorted moved up =
    same_rising sorted (ascending ns) (rising_from sorted (λ i j le lt. IsNonDecreasingBy-from_sort (λ k. k) sorted up i j 0 le lt)) (ascending_rising ns)
    (λ f. sum_by-IsPermutation f ns sorted moved ∙ sym (sum_ascending f ns))

-- the last of a rising list is the greatest
last_greatest : (n : ℕ) (ns : List ℕ) → IsRising (n ∷ ns) → get_or (n ∷ ns) (length ns) 0 ≡ greatest (n ∷ ns)
last_greatest n [] up = omega arith
last_greatest n (m ∷ ns) up = omega (arith, last_greatest m ns up.1, up.0.0)

rising_last : (ns : List ℕ) → IsRising ns → 0 < length ns → get_or ns (length ns - 1) 0 ≡ greatest ns
rising_last [] up has = absurd (omega (arith, has))
rising_last (n ∷ ns) up has = ap (λ (k : ℕ). get_or (n ∷ ns) k 0) (omega arith) ∙ last_greatest n ns up

-- the maximum and the median of numbers that were sorted
pub max_and_median_sorted : (ns sorted : List ℕ) → IsPermutation ns sorted → IsSorted nat_cmp sorted → 0 < length sorted
    → (get_or sorted (length sorted - 1) 0 ≡ greatest ns) × (get_or sorted ((length sorted - 1) / 2) 0 ≡ median ns)
max_and_median_sorted ns sorted moved up has =
    let is : sorted ≡ ascending ns = sorted_is ns sorted moved up in
    let many : length sorted ≡ length ns = length_permutation ns sorted moved in
    let rising : IsRising sorted = rising_from sorted (λ i j le lt. IsNonDecreasingBy-from_sort (λ k. k) sorted up i j 0 le lt) in (
      rising_last sorted rising has ∙ ap greatest is ∙ greatest_ascending ns,
      ap₂ (λ (ks : List ℕ) (k : ℕ). get_or ks ((k - 1) / 2) 0) is many,
    )
