-- Lists made from numbers in a row.
use Rattle.std.proofs.Common.{◌≡◌, ℕ, zero, suc, ◌+◌, ◌<◌, ◌≤◌, List, [], ◌∷◌, ◌++◌, Bool, true, false, not, ◌==◌, refl, sym, ◌∙◌, ap, subst, arith, inl, inr, Option, None, Some, if◌then◌else◌, map, set, filter, find, unwrap_or, option_map}
use Rattle.std.specs.List.{filter_map, range_with_len, cons_option, list_any, AllByRecursion}
use Rattle.std.proofs.lemmas.Bool.{cases_Bool, cases_eq, eq-eqb, eqb-true, ne_eqb, false≢true, or_left, or_right, or_cases}
use Rattle.esr_history.specs.Ascending.{upserted, IsAscendingBy}
use Rattle.esr_history.proofs.Ascending.{lt_ltb, le_ltb}

module _ {X : Type 0} where
  pub map_same : (f g : ℕ → X) (a n : ℕ) → ((t : ℕ) → a ≤ t → t < a + n → f t ≡ g t) → map f (range_with_len a n) ≡ map g (range_with_len a n)
  map_same f g a zero same = refl
  map_same f g a (suc n) same =
      ap (λ (y : X). y ∷ map f (range_with_len (a + 1) n)) (same a (omega arith) (omega arith))
      ∙ ap (λ (ys : List X). g a ∷ ys) (map_same f g (a + 1) n (λ t l m. same t (omega arith) (omega arith)))

  -- one element of a list made so is set
  pub set_range : (f g : ℕ → X) (a n k : ℕ) (y : X) → k < n → g (a + k) ≡ y → ((t : ℕ) → (t ≡ a + k → ⊥) → g t ≡ f t) → set (map f (range_with_len a n)) k y ≡ map g (range_with_len a n)
  set_range f g a zero k y l is same = absurd (omega arith)
  set_range f g a (suc n) zero y l is same = grind (arith, map, map_same)
  set_range f g a (suc n) (suc k) y l is same =
      ap (λ (z : X). z ∷ set (map f (range_with_len (a + 1) n)) k y) (sym (same a (λ (e : a ≡ a + suc k). omega arith)))
      ∙ ap (λ (ys : List X). g a ∷ ys) (set_range f g (a + 1) n k y (omega arith) (ap g (omega arith) ∙ is) (λ t other. same t (λ (e : t ≡ a + suc k). other (omega arith))))

  pub filter_map_same : (f g : ℕ → Option X) (a n : ℕ) → ((t : ℕ) → a ≤ t → t < a + n → f t ≡ g t) → filter_map f (range_with_len a n) ≡ filter_map g (range_with_len a n)
  filter_map_same f g a zero same = refl
  filter_map_same f g a (suc n) same =
      ap (λ (o : Option X). cons_option o (filter_map f (range_with_len (a + 1) n))) (same a (omega arith) (omega arith))
      ∙ ap (λ (ys : List X). cons_option (g a) ys) (filter_map_same f g (a + 1) n (λ t l m. same t (omega arith) (omega arith)))

  module _ (key : X → ℕ) (f : ℕ → Option X) (own : (u : ℕ) (y : X) → f u ≡ Some y → key y ≡ u) where
    pub keys_above : (t a n : ℕ) → t < a → AllByRecursion (λ (y : X). t < key y) (filter_map f (range_with_len a n))
    keys_above t a zero l = tt
    keys_above t a (suc n) l = grind (arith, keys_above t (a + 1) n (omega arith))

    placed_front : (t : ℕ) (new : X) (change : X → X) (xs : List X) → AllByRecursion (λ (y : X). t < key y) xs → upserted key t new change xs ≡ new ∷ xs
    placed_front t new change [] all = refl
    placed_front t new change (x ∷ xs) all = grind (arith, ne_eqb, lt_ltb)

    -- one number's element is placed among those in a row
    pub filter_map_upserted : (g : ℕ → Option X) (t : ℕ) (new : X) (change : X → X) → ((u : ℕ) → (u ≡ t → ⊥) → g u ≡ f u) → g t ≡ Some (unwrap_or (option_map change (f t)) new)
        → (a n : ℕ) → a ≤ t → t < a + n → filter_map g (range_with_len a n) ≡ upserted key t new change (filter_map f (range_with_len a n))
    filter_map_upserted g t new change same is a zero low high = absurd (omega arith)
    filter_map_upserted g t new change same is a (suc n) low high =
        elim (cases_eq a t) [
          | inl e ↦
              let rest : filter_map g (range_with_len (a + 1) n) ≡ filter_map f (range_with_len (a + 1) n) = filter_map_same g f (a + 1) n (λ u l m. same u (λ (h : u ≡ t). omega arith)) in
              ap (λ (o : Option X). cons_option o (filter_map g (range_with_len (a + 1) n))) (ap g e ∙ (is ∙ ap (λ u. Some (unwrap_or (option_map change (f u)) new)) (sym e)))
              ∙ (ap (λ (ys : List X). unwrap_or (option_map change (f a)) new ∷ ys) rest ∙ here e (f a) refl)
          | inr ne ↦
              ap (λ (o : Option X). cons_option o (filter_map g (range_with_len (a + 1) n))) (same a ne)
              ∙ past ne (f a) refl (filter_map_upserted g t new change same is (a + 1) n (omega arith) (omega arith))
        ]
      where
        here : a ≡ t → (o : Option X) → f a ≡ o → unwrap_or (option_map change o) new ∷ filter_map f (range_with_len (a + 1) n) ≡ upserted key t new change (cons_option o (filter_map f (range_with_len (a + 1) n)))
        here e None is' = sym (placed_front t new change (filter_map f (range_with_len (a + 1) n)) (keys_above t (a + 1) n (omega arith)))
        here e (Some y) is' = rw (eq-eqb (key y) t (own a y is' ∙ e)) refl

        past : (a ≡ t → ⊥) → (o : Option X) → f a ≡ o → filter_map g (range_with_len (a + 1) n) ≡ upserted key t new change (filter_map f (range_with_len (a + 1) n))
            → cons_option o (filter_map g (range_with_len (a + 1) n)) ≡ upserted key t new change (cons_option o (filter_map f (range_with_len (a + 1) n)))
        past ne None is' later = later
        past ne (Some y) is' later = grind (arith, ne_eqb, le_ltb)

    -- one number's element is dropped
    pub filter_map_dropped : (g : ℕ → Option X) (t : ℕ) → ((u : ℕ) → (u ≡ t → ⊥) → g u ≡ f u) → g t ≡ None → (us : List ℕ) → filter_map g us ≡ filter (λ (y : X). not (key y == t)) (filter_map f us)
    filter_map_dropped g t same is [] = refl
    filter_map_dropped g t same is (u ∷ us) =
        elim (cases_eq u t) [
          | inl e ↦ ap (λ (o : Option X). cons_option o (filter_map g us)) (ap g e ∙ is) ∙ gone e (f u) refl (filter_map_dropped g t same is us)
          | inr ne ↦ ap (λ (o : Option X). cons_option o (filter_map g us)) (same u ne) ∙ kept ne (f u) refl (filter_map_dropped g t same is us)
        ]
      where
        gone : u ≡ t → (o : Option X) → f u ≡ o → filter_map g us ≡ filter (λ (y : X). not (key y == t)) (filter_map f us) → filter_map g us ≡ filter (λ (y : X). not (key y == t)) (cons_option o (filter_map f us))
        gone e None is' later = later
        gone e (Some y) is' later = rw (eq-eqb (key y) t (own u y is' ∙ e)) later

        kept : (u ≡ t → ⊥) → (o : Option X) → f u ≡ o → filter_map g us ≡ filter (λ (y : X). not (key y == t)) (filter_map f us) → cons_option o (filter_map g us) ≡ filter (λ (y : X). not (key y == t)) (cons_option o (filter_map f us))
        kept ne None is' later = later
        kept ne (Some y) is' later = rw (ne_eqb (key y) t (λ (h : key y ≡ t). ne (sym (own u y is') ∙ h))) (ap (λ ys. y ∷ ys) later)

-- a filter as a map that leaves out
abbrev pub kept_if : (ℕ → Bool) → ℕ → Option ℕ
kept_if p u = if p u then Some u else None

pub filter-filter_map : (p : ℕ → Bool) (us : List ℕ) → filter p us ≡ filter_map (kept_if p) us
filter-filter_map p [] = refl
filter-filter_map p (u ∷ us) = grind (arith, cases_Bool (p u), filter-filter_map p us)

pub kept_if_own : (p : ℕ → Bool) (u y : ℕ) → kept_if p u ≡ Some y → y ≡ u
kept_if_own p u y is = at (p u) is
  where
    at : (b : Bool) → (if b then Some u else None) ≡ Some y → y ≡ u
    at true is' = (cc)
    at false is' = absurd (cc)

pub find_same : (p q : ℕ → Bool) → ((t : ℕ) → p t ≡ q t) → (us : List ℕ) → find p us ≡ find q us
find_same p q same [] = refl
find_same p q same (u ∷ us) = grind (arith, cases_Bool (p u), find_same p q same us)

-- a number among those of a range that pass a test
pub any_in_filter : (p : ℕ → Bool) (u : ℕ) (us : List ℕ) → list_any (λ v. v == u) (filter p us) ≡ true → p u ≡ true
any_in_filter p u [] is = absurd (false≢true is)
any_in_filter p u (v ∷ us) is =
    elim (cases_Bool (p v)) [
      | inl passes ↦ elim (or_cases (v == u) (list_any (λ w. w == u) (filter p us)) (rw passes at is)) [
        | inl here ↦ ap p (sym (eqb-true v u here)) ∙ passes
        | inr later ↦ any_in_filter p u us later
      ]
      | inr fails ↦ any_in_filter p u us (rw fails at is)
    ]

pub filter_in_any : (p : ℕ → Bool) (u a n : ℕ) → p u ≡ true → a ≤ u → u < a + n → list_any (λ v. v == u) (filter p (range_with_len a n)) ≡ true
filter_in_any p u a zero is low high = absurd (omega arith)
filter_in_any p u a (suc n) is low high =
    elim (cases_eq a u) [
      | inl e ↦ rw (ap p e ∙ is) (or_left (a == u) (list_any (λ v. v == u) (filter p (range_with_len (a + 1) n))) (eq-eqb a u e))
      | inr ne ↦ elim (cases_Bool (p a)) [
        | inl passes ↦ rw passes (or_right (a == u) (list_any (λ v. v == u) (filter p (range_with_len (a + 1) n))) (filter_in_any p u (a + 1) n is (omega arith) (omega arith)))
        | inr fails ↦ rw fails (filter_in_any p u (a + 1) n is (omega arith) (omega arith))
      ]
    ]

-- a search by number among elements in a row
module _ {X : Type 0} (key : X → ℕ) (f : ℕ → X) (own : (u : ℕ) → key (f u) ≡ u) where
  pub find_in_range : (t a n : ℕ) → a ≤ t → t < a + n → find (λ (y : X). key y == t) (map f (range_with_len a n)) ≡ Some (f t)
  find_in_range t a zero low high = absurd (omega arith)
  find_in_range t a (suc n) low high =
      elim (cases_eq a t) [
        | inl e ↦ rw (eq-eqb (key (f a)) t (own a ∙ e)) (ap (λ u. Some (f u)) e)
        | inr ne ↦ rw (ne_eqb (key (f a)) t (λ (h : key (f a) ≡ t). ne (sym (own a) ∙ h))) (find_in_range t (a + 1) n (omega arith) (omega arith))
      ]

  pub none_in_range : (t a n : ℕ) → a + n ≤ t → list_any (λ (y : X). key y == t) (map f (range_with_len a n)) ≡ false
  none_in_range t a zero high = refl
  none_in_range t a (suc n) high = rw (ne_eqb (key (f a)) t (λ (h : key (f a) ≡ t). let k : key (f a) ≡ a = own a in omega arith)) (none_in_range t (a + 1) n (omega arith))

  -- a number past those in a row is placed at the end
  pub placed_end : (new : X) (change : X → X) (a n : ℕ) → key new ≡ a + n → upserted key (key new) new change (map f (range_with_len a n)) ≡ map f (range_with_len a n) ++ new ∷ []
  placed_end new change a zero is = refl
  placed_end new change a (suc n) is =
      let k : key (f a) ≡ a = own a in
      rw (ne_eqb (key (f a)) (key new) (λ (h : key (f a) ≡ key new). omega arith), le_ltb (key new) (key (f a)) (omega arith)) (ap (λ ys. f a ∷ ys) (placed_end new change (a + 1) n (omega arith)))

-- the elements that a range of numbers yields ascend
pub filter_map_ascends : {X : Type 0} (key : X → ℕ) (f : ℕ → Option X) → ((u : ℕ) (y : X) → f u ≡ Some y → key y ≡ u) → (a n : ℕ) → IsAscendingBy key (filter_map f (range_with_len a n))
filter_map_ascends key f own a zero = tt
filter_map_ascends {X} key f own a (suc n) = at (f a) refl (filter_map_ascends key f own (a + 1) n)
  where
    at : (o : Option X) → f a ≡ o → IsAscendingBy key (filter_map f (range_with_len (a + 1) n)) → IsAscendingBy key (cons_option o (filter_map f (range_with_len (a + 1) n)))
    at None is later = later
    at (Some y) is later = (subst (λ k. AllByRecursion (λ (z : X). k < key z) (filter_map f (range_with_len (a + 1) n))) (sym (own a y is)) (keys_above key f own a (a + 1) n (omega arith)), later)
