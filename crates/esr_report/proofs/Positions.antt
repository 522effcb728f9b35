-- Positions of names, given their keys, and one more name.
use Rattle.std.proofs.Common.{◌≡◌, ℕ, zero, suc, ◌+◌, ◌<◌, ◌≤◌, List, [], ◌∷◌, ◌++◌, ◌⊎◌, inl, inr, Bool, true, false, ◌||◌, ◌&&◌, not, cond, nat_lt, map, length, All, refl, sym, ◌∙◌, ap, arith, Some, None, ltb-false, le-ltb, lt-ltb, bytes_eq}
use Rattle.std.specs.List.{position, position_or_len, list_any, slice_get}
use Rattle.std.proofs.lemmas.List.Folds.{list_any-append}
use Rattle.std.proofs.lemmas.Slice.Eq.{bytes_eq-Decides}
use Rattle.esr_report.specs.Names.{position_of, all_distinct}

which : (v : Bool) → (v ≡ true) ⊎ (v ≡ false)
which true = inl refl
which false = inr refl

module _ {X : Type 0} (g : X → List ℕ) where
  seen : (p : List ℕ → Bool) (xs : List X) → position_or_len (λ k. p (g k)) xs ≡ position_or_len p (map g xs)
  seen p [] = refl
  seen p (x ∷ xs) = ap (λ n. cond (not (p (g x))) (1 + n) 0) (seen p xs)

  pub lengths : (xs : List X) → length xs ≡ length (map g xs)
  lengths [] = refl
  lengths (x ∷ xs) = ap suc (lengths xs)

  pub position_seen : (p : List ℕ → Bool) (xs : List X) → position (λ k. p (g k)) xs ≡ position p (map g xs)
  position_seen p xs =
      ap (λ n. cond (nat_lt n (length xs)) (Some n) None) (seen p xs)
      ∙ ap (λ m. cond (nat_lt (position_or_len p (map g xs)) m) (Some (position_or_len p (map g xs))) None) (lengths xs)

  pub map_push : (xs : List X) (x : X) → map g (xs ++ x ∷ []) ≡ map g xs ++ g x ∷ []
  map_push [] x = refl
  map_push (y ∷ ys) x = ap (λ l. g y ∷ l) (map_push ys x)

module _ {X : Type 0} (g : X → List ℕ) where
  all_differ : (xs : List X) (name : List ℕ) (upper_bound : ℕ) → All (λ x. length (g x) ≤ upper_bound) xs → upper_bound < length name → length xs ≤ position_or_len (λ x. bytes_eq name (g x)) xs
  all_differ [] name upper_bound h l = omega arith
  all_differ (x ∷ xs) name upper_bound h l = elim (which (bytes_eq name (g x))) [
    | inl same ↦
        let short : length (g x) ≤ upper_bound = h 0 x (omega arith) in
        absurd (omega (arith, l, short, ap length ((bytes_eq-Decides name (g x)).0 same)))
    | inr other ↦
        let later : position_or_len (λ y. bytes_eq name (g y)) (x ∷ xs) ≡ 1 + position_or_len (λ y. bytes_eq name (g y)) xs = rw other refl in
        omega (arith, later, all_differ xs name upper_bound (λ k d i. h (suc k) d (omega (arith, i))) l)
  ]

  -- a name that is longer than all names is not one of them
  pub longer : (xs : List X) (name : List ℕ) (upper_bound : ℕ) → All (λ x. length (g x) ≤ upper_bound) xs → upper_bound < length name → position_of (map g xs) name ≡ None
  longer xs name upper_bound h l =
      sym (position_seen g (bytes_eq name) xs)
      ∙ ap (λ v. cond v (Some (position_or_len (λ x. bytes_eq name (g x)) xs)) None) (le-ltb (position_or_len (λ x. bytes_eq name (g x)) xs) (length xs) (all_differ xs name upper_bound h l))

chosen_none : (v : Bool) (n : ℕ) → cond v (Some n) None ≡ None → v ≡ false
chosen_none true n e = cc
chosen_none false n e = refl

none_before : (p : List ℕ → Bool) (names : List (List ℕ)) → length names ≤ position_or_len p names → list_any p names ≡ false
none_before p [] h = refl
none_before p (x ∷ xs) h = elim (which (p x)) [
  | inl e ↦ let here : position_or_len p (x ∷ xs) ≡ 0 = rw e refl in absurd (omega (arith, h, here))
  | inr e ↦ let later : position_or_len p (x ∷ xs) ≡ 1 + position_or_len p xs = rw e refl in rw e (none_before p xs (omega (arith, h, later)))
]

-- a name without a position is not one of the names
pub nowhere : (names : List (List ℕ)) (name : List ℕ) → position_of names name ≡ None → list_any (bytes_eq name) names ≡ false
nowhere names name e = none_before (bytes_eq name) names (ltb-false _ _ (chosen_none _ _ e))

differs : (a b : List ℕ) → bytes_eq a b ≡ false → bytes_eq b a ≡ false
differs a b e = elim (which (bytes_eq b a)) [
  | inl t ↦ let same = (bytes_eq-Decides a b).1 (sym ((bytes_eq-Decides b a).0 t)) in cc
  | inr f ↦ f
]

pub both_false : (a b : Bool) → (a || b) ≡ false → (a ≡ false) × (b ≡ false)
both_false true b e = cc
both_false false b e = (refl, e)

both_true : (a b : Bool) → (a && b) ≡ true → (a ≡ true) × (b ≡ true)
both_true true b e = (refl, e)
both_true false b e = cc

not_true : (b : Bool) → not b ≡ true → b ≡ false
not_true true e = cc
not_true false e = refl

unlisted : (p : List ℕ → Bool) (names : List (List ℕ)) (k : ℕ) (name : List ℕ) → list_any p names ≡ false → slice_get names k ≡ Some name → p name ≡ false
unlisted p [] k name none at = cc
unlisted p (x ∷ xs) zero name none at = let here : x ≡ name = grind arith in ap p (sym here) ∙ (both_false _ _ none).0
unlisted p (x ∷ xs) (suc k) name none at = unlisted p xs k name (both_false _ _ none).1 at

first_at : (names : List (List ℕ)) (k : ℕ) (name : List ℕ) → all_distinct names ≡ true → slice_get names k ≡ Some name
    → (position_or_len (bytes_eq name) names ≡ k) × (k < length names)
first_at [] k name h at = cc
first_at (x ∷ xs) zero name h at =
    let here : name ≡ x = grind arith in
    (rw ((bytes_eq-Decides name x).1 here) refl, omega arith)
first_at (x ∷ xs) (suc k) name h at =
    let parts = both_true _ _ h in
    let later = first_at xs k name parts.1 at in
    let apart : bytes_eq name x ≡ false = differs x name (unlisted (bytes_eq x) xs k name (not_true (list_any (bytes_eq x) xs) parts.0) at) in
    (rw apart (omega (arith, later.0)), omega (arith, later.1))

-- the position of the name at a position, if no name is bound twice
pub position_at : (names : List (List ℕ)) (k : ℕ) (name : List ℕ) → all_distinct names ≡ true → slice_get names k ≡ Some name → position_of names name ≡ Some k
position_at names k name h at =
    let first = first_at names k name h at in
    rw (first.0, lt-ltb k (length names) first.1) refl

-- a name that is not one of the names may be added
pub all_distinct-push : (names : List (List ℕ)) (name : List ℕ) → all_distinct names ≡ true → list_any (bytes_eq name) names ≡ false → all_distinct (names ++ name ∷ []) ≡ true
all_distinct-push [] name h n = refl
all_distinct-push (x ∷ xs) name h n =
    let parts = both_true _ _ h in
    let apart = both_false _ _ n in
    let alone : list_any (bytes_eq x) (xs ++ name ∷ []) ≡ false =
    list_any-append (bytes_eq x) xs (name ∷ []) ∙ rw (not_true (list_any (bytes_eq x) xs) parts.0, differs name x apart.0) refl in
    rw alone (all_distinct-push xs name parts.1 apart.1)
