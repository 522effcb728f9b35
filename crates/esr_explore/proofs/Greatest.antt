-- The greatest of numbers that are read one after another, and its first index.
use Rattle.std.proofs.Common.{◌≡◌, ℕ, ◌+◌, ◌<◌, ◌≤◌, ◌==◌, List, [], ◌∷◌, ◌++◌, max, refl, ◌∙◌, ap, sym, arith, inl, inr, get_or, length, length-take-le, map, subst, take}
use Rattle.std.proofs.lemmas.Bool.{cases_lt}
use Rattle.std.proofs.lemmas.Bool.Decides.{nat_tests}
use Rattle.std.proofs.lemmas.List.{get_or_append_left, get_or_push, length-map, length_push, map_more}
use Rattle.std.proofs.lemmas.List.Recursion.{max_bounds, max_push}
use Rattle.std.proofs.lemmas.List.Sums.{position_or_len_is}
use Rattle.esr_explore.specs.Severity.{first_greatest, greatest}

pub greatest_push : (ns : List ℕ) (n : ℕ) → greatest (ns ++ n ∷ []) ≡ max (greatest ns) n
greatest_push ns n = max_push greatest (λ x. x) refl (λ _ _. refl) ns n

pub greatest_bounds : (ns : List ℕ) (k : ℕ) → k < length ns → get_or ns k 0 ≤ greatest ns
greatest_bounds ns k lt = max_bounds greatest (λ x. x) refl (λ _ _. refl) ns k 0 lt

-- the greatest of numbers that are read one after another
pub greatest_more : {X : Type 0} (f : X → ℕ) (xs : List X) (i : ℕ) (d : X) → i < length xs
    → greatest (map f (take (i + 1) xs)) ≡ max (greatest (map f (take i xs))) (f (get_or xs i d))
greatest_more f xs i d lt = ap greatest (map_more f xs i d lt) ∙ greatest_push (map f (take i xs)) (f (get_or xs i d))

-- of the numbers so far, the one at this index is the first of the greatest
pub record IsFirst (ns : List ℕ) (index upper_bound : ℕ) : Type 0 where
  pub most_is : upper_bound ≡ greatest ns
  pub within : index ≤ length ns
  pub before : (k : ℕ) → k < index → get_or ns k 0 < upper_bound
  pub at : index < length ns → get_or ns index 0 ≡ upper_bound
  pub some : 0 < length ns → index < length ns

none_in : (ns : List ℕ) (index upper_bound : ℕ) → IsFirst ns index upper_bound → length ns ≤ index → length ns ≡ 0
none_in ns index upper_bound is past = elim (cases_lt 0 (length ns)) [
  | inl has ↦ absurd (omega (arith, is.some has, past))
  | inr none ↦ omega (arith, none)
]

-- one more number, which is greater than those before
pub first_takes : (ns : List ℕ) (index upper_bound n : ℕ) → IsFirst ns index upper_bound → upper_bound < n → IsFirst (ns ++ n ∷ []) (length ns) n
first_takes ns index upper_bound n is more = record {
  most_is = omega (arith, is.most_is, more, greatest_push ns n);
  within = omega (arith, length_push ns n);
  before = λ k lt. let same : get_or (ns ++ n ∷ []) k 0 ≡ get_or ns k 0 = get_or_append_left ns (n ∷ []) 0 k lt in
      omega (arith, same, is.most_is, more, greatest_bounds ns k lt);
  at = λ lt. get_or_push ns n 0 (length ns) refl;
  some = λ lt. omega (arith, length_push ns n);
}

-- a first number that is not above 0
first_zero : (ns : List ℕ) (index upper_bound n : ℕ) → IsFirst ns index upper_bound → n ≤ upper_bound → length ns ≡ 0 → get_or (ns ++ n ∷ []) index 0 ≡ upper_bound
first_zero [] index upper_bound n is less none =
    let zero : index ≡ 0 = omega (arith, is.within) in
    ap (λ (k : ℕ). get_or (n ∷ []) k 0) zero ∙ omega (arith, is.most_is, less)
first_zero (m ∷ ns) index upper_bound n is less none = absurd (omega (arith, none))

-- one more number, which is not
pub first_keeps : (ns : List ℕ) (index upper_bound n : ℕ) → IsFirst ns index upper_bound → n ≤ upper_bound → IsFirst (ns ++ n ∷ []) index upper_bound
first_keeps ns index upper_bound n is less =
    let len : length (ns ++ n ∷ []) ≡ length ns + 1 = length_push ns n in
    record {
      most_is = omega (arith, is.most_is, less, greatest_push ns n);
      within = omega (arith, len, is.within);
      before = λ k lt. let same : get_or (ns ++ n ∷ []) k 0 ≡ get_or ns k 0 = get_or_append_left ns (n ∷ []) 0 k (omega (arith, lt, is.within)) in
          omega (arith, same, is.before k lt);
      at = λ lt. elim (cases_lt index (length ns)) [
        | inl lower ↦ get_or_append_left ns (n ∷ []) 0 index lower ∙ is.at lower
        | inr past ↦ first_zero ns index upper_bound n is less (none_in ns index upper_bound is past)
      ];
      some = λ lt. elim (cases_lt 0 (length ns)) [
        | inl has ↦ omega (arith, is.some has, len)
        | inr none ↦ omega (arith, is.within, none, len)
      ];
    }

-- the next number, by what the code does with it
pub first_more : {X : Type 0} (f : X → ℕ) (xs : List X) (i : ℕ) (d : X) (index upper_bound n : ℕ) → i < length xs → n ≡ f (get_or xs i d)
    → IsFirst (map f (take i xs)) index upper_bound
    → (upper_bound < n → IsFirst (map f (take (i + 1) xs)) i n) × (n ≤ upper_bound → IsFirst (map f (take (i + 1) xs)) index upper_bound)
first_more f xs i d index upper_bound n lt n_is is =
    let was : List ℕ = map f (take i xs) in
    let len : length was ≡ i = length-map (take i xs) f ∙ length-take-le i xs (omega (arith, lt)) in
    let now : was ++ n ∷ [] ≡ map f (take (i + 1) xs) = ap (λ (k : ℕ). was ++ k ∷ []) n_is ∙ sym (map_more f xs i d lt) in (
      λ more. subst (λ (ns : List ℕ). IsFirst ns i n) now (subst (λ (p : ℕ). IsFirst (was ++ n ∷ []) p n) len (first_takes was index upper_bound n is more)),
      λ less. subst (λ (ns : List ℕ). IsFirst ns index upper_bound) now (first_keeps was index upper_bound n is less),
    )

-- after the last number
pub first_all : (ns : List ℕ) (index upper_bound : ℕ) → IsFirst ns index upper_bound → index ≡ first_greatest ns
first_all ns index upper_bound is =
    sym (position_or_len_is (λ size. size == greatest ns) ns index 0 is.within
    (λ k lt. let lower : get_or ns k 0 < greatest ns = omega (arith, is.before k lt, is.most_is) in grind (arith, nat_tests))
    (λ lt. let same : get_or ns index 0 ≡ greatest ns = is.at lt ∙ is.most_is in grind (arith, nat_tests)))
