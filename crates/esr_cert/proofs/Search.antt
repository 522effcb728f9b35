-- The results of a binary search of an ascending list.
use Rattle.std.proofs.Common.{◌≡◌, ℕ, zero, suc, ◌+◌, ◌≤◌, ◌<◌, List, [], ◌∷◌, true, false, ◌&&◌, cond, eqb, ltb, refl, sym, ap, ◌∙◌, subst, inl, inr, arith, length, get_or, Result, Ok, Err, MatchResult, ltb-true, le-ltb, lt-ltb, eq-eqb, ne_eqb, is_ok}
use Rattle.std.specs.declared.cmp.Ordering.{Ordering}
use Rattle.std.specs.declared.cmp.Ordering.TheVariants.{Less, Equal, Greater}
use Rattle.std.specs.Ordering.{nat_cmp, is_lt, ordering_then}
use Rattle.std.proofs.lemmas.Cmp.{nat_cmp_total, then_total, on_total}
use Rattle.std.specs.List.Sorted.{IsBinarySearchResult, IsPartitionPoint, IsSearchInRange}
use Rattle.std.proofs.lemmas.Bool.{and_parts, or_from, or_left, or_right, or_cases, and_from, cases_lt, cases_order, false_from_ne_true, eqb-true}
use Rattle.std.proofs.lemmas.List.Sorted.{searched, searchable_from_sorted}
use Rattle.std.proofs.lemmas.List.Folds.{list_any_at, list_any_none}
use Rattle.esr_cert.specs.Problem.{in_set, is_strictly_ascending, pair_lt, are_pairs_ascending, has_pair}

-- each number is below all later ones
pub ascending_far : (xs : List ℕ) → is_strictly_ascending xs ≡ true → (i j : ℕ) → i < j → j < length xs → get_or xs i 0 < get_or xs j 0
ascending_far [] h i j l m = absurd (omega arith)
ascending_far (x ∷ []) h i j l m = absurd (omega arith)
ascending_far (x ∷ y ∷ rest) h i zero l m = absurd (omega arith)
ascending_far (x ∷ y ∷ rest) h zero (suc zero) l m = ltb-true x y (and_parts (ltb x y) (is_strictly_ascending (y ∷ rest)) h).0
ascending_far (x ∷ y ∷ rest) h zero (suc (suc j)) l m =
    let both : (ltb x y ≡ true) × (is_strictly_ascending (y ∷ rest) ≡ true) = and_parts (ltb x y) (is_strictly_ascending (y ∷ rest)) h in
    omega (arith, ltb-true x y both.0, ascending_far (y ∷ rest) both.1 0 (suc j) (omega arith) (omega arith))
ascending_far (x ∷ y ∷ rest) h (suc i) (suc j) l m =
    ascending_far (y ∷ rest) (and_parts (ltb x y) (is_strictly_ascending (y ∷ rest)) h).1 i j (omega arith) (omega arith)

pub ascending_rises : (xs : List ℕ) → is_strictly_ascending xs ≡ true → (i j : ℕ) → i ≤ j → j < length xs → get_or xs i 0 ≤ get_or xs j 0
ascending_rises xs h i j l m =
    elim (cases_lt i j) [ inl k ↦ (let f : get_or xs i 0 < get_or xs j 0 = ascending_far xs h i j k m in omega arith) | inr k ↦ (let e : i ≡ j = omega arith in let P : ℕ → Type 0 = λ n. get_or xs i 0 ≤ get_or xs n 0 in subst P e (omega arith)) ]

-- the number at a place is at least the place
pub ascending_place : (xs : List ℕ) → is_strictly_ascending xs ≡ true → (i : ℕ) → i < length xs → i ≤ get_or xs i 0
ascending_place xs h zero l = omega arith
ascending_place xs h (suc i) l = let p : i ≤ get_or xs i 0 = ascending_place xs h i (omega arith) in let f : get_or xs i 0 < get_or xs (suc i) 0 = ascending_far xs h i (suc i) (omega arith) l in omega arith

in_set_at : (xs : List ℕ) (i u : ℕ) → i < length xs → get_or xs i 0 ≡ u → in_set xs u ≡ true
in_set_at [] i u l e = absurd (omega arith)
in_set_at (x ∷ xs) zero u l e = or_left (eqb x u) (in_set xs u) (eq-eqb x u e)
in_set_at (x ∷ xs) (suc i) u l e = or_right (eqb x u) (in_set xs u) (in_set_at xs i u (omega arith) e)

pub not_in_set : (xs : List ℕ) (u : ℕ) → ((k : ℕ) → k < length xs → get_or xs k 0 ≡ u → ⊥) → in_set xs u ≡ false
not_in_set [] u h = refl
not_in_set (x ∷ xs) u h = or_from (eqb x u) (in_set xs u) (ne_eqb x u (λ (e : x ≡ u). h 0 (omega arith) e)) (not_in_set xs u (λ k l e. h (suc k) (omega arith) e))

pub found_in_set : (xs : List ℕ) (u : ℕ) (r : Result ℕ ℕ) → is_strictly_ascending xs ≡ true → IsBinarySearchResult (λ y. nat_cmp y u) xs r → is_ok r ≡ in_set xs u
found_in_set xs u r h s = go r (searched xs u r s (ascending_rises xs h))
  where
    go : (r : Result ℕ ℕ) → MatchResult r (λ i. (i < length xs) × (get_or xs i 0 ≡ u)) (λ i. (i ≤ length xs) × ((k : ℕ) → k < i → get_or xs k 0 < u) × ((k : ℕ) → i ≤ k → k < length xs → u < get_or xs k 0)) → is_ok r ≡ in_set xs u
    go (Ok i) m = sym (in_set_at xs i u m.0 m.1)
    go (Err i) m = sym (not_in_set xs u (λ k l e. apart i m.1 m.2 k l e))
      where
        apart : (i : ℕ) → ((k : ℕ) → k < i → get_or xs k 0 < u) → ((k : ℕ) → i ≤ k → k < length xs → u < get_or xs k 0) → (k : ℕ) → k < length xs → get_or xs k 0 ≡ u → ⊥
        apart i low high k l e = elim (cases_lt k i) [ inl n ↦ omega (arith, low k n) | inr n ↦ omega (arith, high k n l) ]

-- ---- pairs

cmp_equal : (x y : ℕ) → x ≡ y → nat_cmp x y ≡ Equal
cmp_equal x y e = ap (λ b. cond b Less (cond (eqb x y) Equal Greater)) (le-ltb x y (omega arith)) ∙ ap (λ b. cond b Equal Greater) (eq-eqb x y e)

cmp_greater : (x y : ℕ) → y < x → nat_cmp x y ≡ Greater
cmp_greater x y l = ap (λ b. cond b Less (cond (eqb x y) Equal Greater)) (le-ltb x y (omega arith)) ∙ ap (λ b. cond b Equal Greater) (ne_eqb x y (λ (e : x ≡ y). omega arith))

cmp_less : (x y : ℕ) → x < y → nat_cmp x y ≡ Less
cmp_less x y l = ap (λ b. cond b Less (cond (eqb x y) Equal Greater)) (lt-ltb x y l)

equal_from : (x y : ℕ) → nat_cmp x y ≡ Equal → x ≡ y
equal_from x y h =
    elim (cases_order x y) [
      | inl e ↦ e
      | inr l ↦ elim l [ inl m ↦ (let f : nat_cmp x y ≡ Less = cmp_less x y m in cc) | inr m ↦ (let f : nat_cmp x y ≡ Greater = cmp_greater x y m in cc) ]
    ]

abbrev pair_cmp : ℕ × ℕ → ℕ × ℕ → Ordering
pair_cmp a b = ordering_then (nat_cmp a.0 b.0) (nat_cmp a.1 b.1)

-- a pair before another is not after it
lt_not_gt : (a b : ℕ × ℕ) → pair_lt a b ≡ true → is_lt (pair_cmp b a) ≡ false
lt_not_gt a b h =
    elim (or_cases (ltb a.0 b.0) (eqb a.0 b.0 && ltb a.1 b.1) h) [
      | inl l ↦ ap (λ o. is_lt (ordering_then o (nat_cmp b.1 a.1))) (cmp_greater b.0 a.0 (ltb-true a.0 b.0 l))
      | inr r ↦
          let both : (eqb a.0 b.0 ≡ true) × (ltb a.1 b.1 ≡ true) = and_parts (eqb a.0 b.0) (ltb a.1 b.1) r in
          ap (λ o. is_lt (ordering_then o (nat_cmp b.1 a.1))) (cmp_equal b.0 a.0 (sym (eqb-true a.0 b.0 both.0)))
          ∙ ap is_lt (cmp_greater b.1 a.1 (ltb-true a.1 b.1 both.1))
    ]

pairs_sorted : (xs : List (ℕ × ℕ)) → are_pairs_ascending xs ≡ true → (k : ℕ) (d : ℕ × ℕ) → 0 ≤ k → k + 1 < length xs → is_lt (pair_cmp (get_or xs (k + 1) d) (get_or xs k d)) ≡ false
pairs_sorted [] h k d l m = absurd (omega arith)
pairs_sorted (x ∷ []) h k d l m = absurd (omega arith)
pairs_sorted (x ∷ y ∷ rest) h zero d l m = lt_not_gt x y (and_parts (pair_lt x y) (are_pairs_ascending (y ∷ rest)) h).0
pairs_sorted (x ∷ y ∷ rest) h (suc k) d l m =
    let P : ℕ → Type 0 = λ i. is_lt (pair_cmp (get_or (x ∷ y ∷ rest) i d) (get_or (x ∷ y ∷ rest) (suc k) d)) ≡ false in
    let e : suc (k + 1) ≡ suc k + 1 = omega arith in
    subst P e (pairs_sorted (y ∷ rest) (and_parts (pair_lt x y) (are_pairs_ascending (y ∷ rest)) h).1 k d (omega arith) (omega arith))

then_equal : (a b : Ordering) → ordering_then a b ≡ Equal → (a ≡ Equal) × (b ≡ Equal)
then_equal Less b h = cc
then_equal Equal b h = (refl, h)
then_equal Greater b h = cc

-- a result other than `Equal`
no_match : (x : ℕ × ℕ) (u v : ℕ) (o : Ordering) → pair_cmp x (u, v) ≡ o → (o ≡ Equal → ⊥) → (eqb x.0 u && eqb x.1 v) ≡ false
no_match x u v o e ne = false_from_ne_true (eqb x.0 u && eqb x.1 v) yes
  where
    yes : (eqb x.0 u && eqb x.1 v) ≡ true → ⊥
    yes t =
        let both : (eqb x.0 u ≡ true) × (eqb x.1 v ≡ true) = and_parts (eqb x.0 u) (eqb x.1 v) t in
        ne (sym e ∙ ap (λ o. ordering_then o (nat_cmp x.1 v)) (cmp_equal x.0 u (eqb-true x.0 u both.0)) ∙ cmp_equal x.1 v (eqb-true x.1 v both.1))

pub found_pair : (xs : List (ℕ × ℕ)) (u v : ℕ) (r : Result ℕ ℕ) → are_pairs_ascending xs ≡ true → IsSearchInRange r (length xs) → IsBinarySearchResult (λ y. pair_cmp y (u, v)) xs r → is_ok r ≡ has_pair xs u v
found_pair xs u v (Ok i) h l s = sym (list_any_at (λ (e : ℕ × ℕ). eqb e.0 u && eqb e.1 v) xs i (u, v) l yes)
  where
    yes : (eqb (get_or xs i (u, v)).0 u && eqb (get_or xs i (u, v)).1 v) ≡ true
    yes =
        let both : (nat_cmp (get_or xs i (u, v)).0 u ≡ Equal) × (nat_cmp (get_or xs i (u, v)).1 v ≡ Equal) = then_equal (nat_cmp (get_or xs i (u, v)).0 u) (nat_cmp (get_or xs i (u, v)).1 v) (s (u, v)) in
        and_from (eqb (get_or xs i (u, v)).0 u) (eqb (get_or xs i (u, v)).1 v) (eq-eqb (get_or xs i (u, v)).0 u (equal_from _ _ both.0)) (eq-eqb (get_or xs i (u, v)).1 v (equal_from _ _ both.1))
found_pair xs u v (Err i) h l s =
    sym (list_any_none (λ (e : ℕ × ℕ). eqb e.0 u && eqb e.1 v) xs (λ k d m. at k d m))
  where
    parts : IsPartitionPoint (λ y. pair_cmp y (u, v) ≡ Less) (λ y. pair_cmp y (u, v) ≡ Greater) xs i
    parts = s (searchable_from_sorted (then_total (on_total (λ (t : ℕ × ℕ). t.0) nat_cmp_total) (on_total (λ (t : ℕ × ℕ). t.1) nat_cmp_total)) (λ x. x) xs (u, v) (pairs_sorted xs h))

    at : (k : ℕ) (d : ℕ × ℕ) → k < length xs → (eqb (get_or xs k d).0 u && eqb (get_or xs k d).1 v) ≡ false
    at k d m =
        elim (cases_lt k i) [
          | inl n ↦ no_match (get_or xs k d) u v Less (parts.0 k d (omega arith) n) (λ e. cc)
          | inr n ↦ no_match (get_or xs k d) u v Greater (parts.1 k d n m) (λ e. cc)
        ]
