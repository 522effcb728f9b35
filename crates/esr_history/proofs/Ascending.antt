-- The results of a search in an ascending list, and the effect of an edit there.
use Rattle.std.proofs.Common.{◌≡◌, ℕ, zero, suc, ◌<◌, ◌≤◌, List, [], ◌∷◌, length, Bool, true, false, not, ◌==◌, refl, sym, ap, subst, arith, inl, inr, get_or, set, map, Result, Ok, Err, IfOk, IfErr, ◌||◌, Some, filter, find, nat_lt}
use Rattle.std.specs.List.{AllByRecursion, insert, remove, list_any}
use Rattle.std.specs.List.Sorted.{IsSearchInRange, IsBinarySearchResult, IsNonDecreasingBy}
use Rattle.std.specs.Ordering.{nat_cmp, ordering_index}
use Rattle.std.proofs.lemmas.Cmp.{ranked}
use Rattle.std.proofs.lemmas.Bool.{cases_Bool, cases_eq, cases_lt, eq-eqb, ne_eqb, or_left, or_right}
use Rattle.std.proofs.lemmas.Bool.Decides.{nat_tests}
use Rattle.std.proofs.lemmas.List.Elements.{All-from_recursion}
use mathlib.Core.Bool.{or_comm}
use Rattle.esr_history.specs.Ascending.{IsAscendingBy, upserted, IsPlaceOf, IsGapFor}

pub lt_ltb : (a b : ℕ) → a < b → nat_lt a b ≡ true
lt_ltb a b l = grind (arith, nat_tests)

pub le_ltb : (a b : ℕ) → b ≤ a → nat_lt a b ≡ false
le_ltb a b l = grind (arith, nat_tests)

module _ {X : Type 0} (key : X → ℕ) where
  -- in a list that ascends, an earlier number is below a later one
  pub rises : (xs : List X) → IsAscendingBy key xs → (i j : ℕ) (d : X) → i < j → j < length xs → key (get_or xs i d) < key (get_or xs j d)
  rises [] asc i j d l m = absurd (omega arith)
  rises (x ∷ xs) asc zero zero d l m = absurd (omega arith)
  rises (x ∷ xs) asc zero (suc j) d l m = All-from_recursion (λ y. key x < key y) xs asc.0 j d (omega arith)
  rises (x ∷ xs) asc (suc i) zero d l m = absurd (omega arith)
  rises (x ∷ xs) asc (suc i) (suc j) d l m = rises xs asc.1 i j d (omega arith) (omega arith)

  comparisons_rise : (xs : List X) → IsAscendingBy key xs → (t : ℕ) → IsNonDecreasingBy (λ y. ordering_index (nat_cmp (key y) t)) xs
  comparisons_rise xs asc t i j d le in_range = grind (arith, rises, nat_tests)

  -- a binary search by number ends at the number, or at the gap for it
  pub searched : (xs : List X) → IsAscendingBy key xs → (t : ℕ) (r : Result ℕ ℕ) → IsSearchInRange r (length xs) → IsBinarySearchResult (λ y. nat_cmp (key y) t) xs r → IfOk r (IsPlaceOf key xs t) × IfErr r (IsGapFor key xs t)
  searched xs asc t (Ok at) in_range equal = (record { in_range = in_range; has_number = λ d. ranked _ t _ (sym (equal d)) }, tt)
  searched xs asc t (Err at) in_range parted = grind (arith, ranked, comparisons_rise xs asc t)

  gap_tail : (x : X) (xs : List X) (t i : ℕ) → IsGapFor key (x ∷ xs) t (suc i) → IsGapFor key xs t i
  gap_tail x xs t i gap = record {
    in_range = omega (arith, gap.in_range);
    smaller_before = λ j d l. gap.smaller_before (suc j) d (omega arith);
    greater_after = λ j d l m. gap.greater_after (suc j) d (omega arith) (omega arith);
  }

  gap_tail_zero : (x : X) (xs : List X) (t : ℕ) → IsGapFor key (x ∷ xs) t 0 → IsGapFor key xs t 0
  gap_tail_zero x xs t gap = record {
    in_range = omega arith;
    smaller_before = λ j d l. absurd (omega arith);
    greater_after = λ j d l m. gap.greater_after (suc j) d (omega arith) (omega arith);
  }

  pub place_tail : (x : X) (xs : List X) (t i : ℕ) → IsPlaceOf key (x ∷ xs) t (suc i) → IsPlaceOf key xs t i
  place_tail x xs t i place = record { in_range = omega (arith, place.in_range); has_number = place.has_number }

  module _ (t : ℕ) (new : X) (change : X → X) where
    -- at the index of the number, the element is changed
    pub placed_at : (xs : List X) → IsAscendingBy key xs → (i : ℕ) (d : X) → IsPlaceOf key xs t i → set xs i (change (get_or xs i d)) ≡ upserted key t new change xs
    placed_at [] asc i d place = absurd (omega (arith, place.in_range))
    placed_at (x ∷ xs) asc zero d place = rw (eq-eqb (key x) t (place.has_number d)) refl
    placed_at (x ∷ xs) asc (suc i) d place =
        let h : key (get_or xs i d) ≡ t = place.has_number d in
        let r : key x < key (get_or xs i d) = All-from_recursion (λ y. key x < key y) xs asc.0 i d (omega (arith, place.in_range)) in
        rw (ne_eqb (key x) t (λ (e : key x ≡ t). omega arith), le_ltb t (key x) (omega arith)) (ap (λ ys. x ∷ ys) (placed_at xs asc.1 i d (place_tail x xs t i place)))

    -- in the gap for the number, a new element is put
    pub placed_gap : (xs : List X) (i : ℕ) → IsGapFor key xs t i → insert xs i new ≡ upserted key t new change xs
    placed_gap [] zero gap = refl
    placed_gap [] (suc i) gap = absurd (omega (arith, gap.in_range))
    placed_gap (x ∷ xs) zero gap =
        let l : t < key x = gap.greater_after 0 x (omega arith) (omega arith) in
        rw (ne_eqb (key x) t (λ (e : key x ≡ t). omega arith), lt_ltb t (key x) l) refl
    placed_gap (x ∷ xs) (suc i) gap =
        let l : key x < t = gap.smaller_before 0 x (omega arith) in
        rw (ne_eqb (key x) t (λ (e : key x ≡ t). omega arith), le_ltb t (key x) (omega arith)) (ap (λ ys. x ∷ ys) (placed_gap xs i (gap_tail x xs t i gap)))

    placed_above : key new ≡ t → ((y : X) → key (change y) ≡ key y) → (a : ℕ) → a < t → (xs : List X) → AllByRecursion (λ y. a < key y) xs → AllByRecursion (λ y. a < key y) (upserted key t new change xs)
    placed_above is same a l [] all = (omega (arith, is), tt)
    placed_above is same a l (x ∷ xs) all =
        grind (arith, cases_eq (key x) t, eq-eqb, ne_eqb, cases_lt t (key x), lt_ltb, le_ltb, placed_above is same a l xs all.1)

    -- the list still ascends
    pub placed_ascends : key new ≡ t → ((y : X) → key (change y) ≡ key y) → (xs : List X) → IsAscendingBy key xs → IsAscendingBy key (upserted key t new change xs)
    placed_ascends is same [] asc = (tt, tt)
    placed_ascends is same (x ∷ xs) asc =
        elim (cases_eq (key x) t) [
          | inl e ↦ rw (eq-eqb (key x) t e) (subst (λ k. AllByRecursion (λ y. k < key y) xs) (sym (same x)) asc.0, asc.1)
          | inr ne ↦ rw (ne_eqb (key x) t ne) (elim (cases_lt t (key x)) [
            | inl below ↦ rw (lt_ltb t (key x) below) ((omega (arith, is), all_above xs asc.0 below), (asc.0, asc.1))
            | inr above ↦ rw (le_ltb t (key x) above) (placed_above is same (key x) (omega arith) xs asc.0, placed_ascends is same xs asc.1)
          ])
        ]
      where
        all_above : (ys : List X) → AllByRecursion (λ y. key x < key y) ys → t < key x → AllByRecursion (λ y. key new < key y) ys
        all_above [] all below = tt
        all_above (y ∷ ys) all below = (omega (arith, is, all.0), all_above ys all.1 below)

  pub all_filter : (p : X → Bool) (P : X → Type 0) (xs : List X) → AllByRecursion P xs → AllByRecursion P (filter p xs)
  all_filter p P [] all = tt
  all_filter p P (x ∷ xs) all = grind (arith, cases_Bool (p x), all_filter p P xs all.1)

  pub filter_ascends : (p : X → Bool) (xs : List X) → IsAscendingBy key xs → IsAscendingBy key (filter p xs)
  filter_ascends p [] asc = tt
  filter_ascends p (x ∷ xs) asc = grind (arith, cases_Bool (p x), all_filter, filter_ascends p xs asc.1)

  -- the elements with a number other than t
  abbrev pub others : ℕ → List X → List X
  others t xs = filter (λ y. not (key y == t)) xs

  -- if no element has the number, dropping it changes nothing
  pub others_gap : (t i : ℕ) (xs : List X) → IsGapFor key xs t i → others t xs ≡ xs
  others_gap t i [] gap = refl
  others_gap t zero (x ∷ xs) gap =
      let l : t < key x = gap.greater_after 0 x (omega arith) (omega arith) in
      rw (ne_eqb (key x) t (λ (e : key x ≡ t). omega arith)) (ap (λ ys. x ∷ ys) (others_gap t zero xs (gap_tail_zero x xs t gap)))
  others_gap t (suc i) (x ∷ xs) gap =
      let l : key x < t = gap.smaller_before 0 x (omega arith) in
      rw (ne_eqb (key x) t (λ (e : key x ≡ t). omega arith)) (ap (λ ys. x ∷ ys) (others_gap t i xs (gap_tail x xs t i gap)))

  others_above : (t : ℕ) (xs : List X) → AllByRecursion (λ y. t < key y) xs → others t xs ≡ xs
  others_above t [] all = refl
  others_above t (x ∷ xs) all =
      let l : t < key x = all.0 in
      rw (ne_eqb (key x) t (λ (e : key x ≡ t). omega arith)) (ap (λ ys. x ∷ ys) (others_above t xs all.1))

  -- at the index of the number, only this element is dropped
  pub others_at : (t i : ℕ) (xs : List X) (d : X) → IsAscendingBy key xs → IsPlaceOf key xs t i → others t xs ≡ remove xs i
  others_at t i [] d asc place = absurd (omega (arith, place.in_range))
  others_at t zero (x ∷ xs) d asc place =
      let h : key x ≡ t = place.has_number d in
      rw (eq-eqb (key x) t h) (others_above t xs (subst (λ k. AllByRecursion (λ y. k < key y) xs) h asc.0))
  others_at t (suc i) (x ∷ xs) d asc place =
      let h : key (get_or xs i d) ≡ t = place.has_number d in
      let r : key x < key (get_or xs i d) = All-from_recursion (λ y. key x < key y) xs asc.0 i d (omega (arith, place.in_range)) in
      rw (ne_eqb (key x) t (λ (e : key x ≡ t). omega arith)) (ap (λ ys. x ∷ ys) (others_at t i xs d asc.1 (place_tail x xs t i place)))

  -- if the number has an index, some element has the number
  pub any_place : (t i : ℕ) (xs : List X) (d : X) → IsPlaceOf key xs t i → list_any (λ y. key y == t) xs ≡ true
  any_place t i [] d place = absurd (omega (arith, place.in_range))
  any_place t zero (x ∷ xs) d place = or_left (key x == t) (list_any (λ y. key y == t) xs) (eq-eqb (key x) t (place.has_number d))
  any_place t (suc i) (x ∷ xs) d place = or_right (key x == t) (list_any (λ y. key y == t) xs) (any_place t i xs d (place_tail x xs t i place))

  pub any_gap : (t i : ℕ) (xs : List X) → IsGapFor key xs t i → list_any (λ y. key y == t) xs ≡ false
  any_gap t i [] gap = refl
  any_gap t zero (x ∷ xs) gap =
      let l : t < key x = gap.greater_after 0 x (omega arith) (omega arith) in
      rw (ne_eqb (key x) t (λ (e : key x ≡ t). omega arith)) (any_gap t zero xs (gap_tail_zero x xs t gap))
  any_gap t (suc i) (x ∷ xs) gap =
      let l : key x < t = gap.smaller_before 0 x (omega arith) in
      rw (ne_eqb (key x) t (λ (e : key x ≡ t). omega arith)) (any_gap t i xs (gap_tail x xs t i gap))

  -- if the number has an index, and the change keeps its element, nothing changes
  pub placed_same : (t i : ℕ) (new : X) (xs : List X) → IsAscendingBy key xs → IsPlaceOf key xs t i → upserted key t new (λ y. y) xs ≡ xs
  placed_same t i new [] asc place = absurd (omega (arith, place.in_range))
  placed_same t zero new (x ∷ xs) asc place = rw (eq-eqb (key x) t (place.has_number x)) refl
  placed_same t (suc i) new (x ∷ xs) asc place =
      let h : key (get_or xs i x) ≡ t = place.has_number x in
      let r : key x < key (get_or xs i x) = All-from_recursion (λ y. key x < key y) xs asc.0 i x (omega (arith, place.in_range)) in
      rw (ne_eqb (key x) t (λ (e : key x ≡ t). omega arith), le_ltb t (key x) (omega arith)) (ap (λ ys. x ∷ ys) (placed_same t i new xs asc.1 (place_tail x xs t i place)))

  -- if the number has an index, a search by number finds the element there
  pub found_at : (t i : ℕ) (xs : List X) (d : X) → IsAscendingBy key xs → IsPlaceOf key xs t i → find (λ y. key y == t) xs ≡ Some (get_or xs i d)
  found_at t i [] d asc place = absurd (omega (arith, place.in_range))
  found_at t zero (x ∷ xs) d asc place = rw (eq-eqb (key x) t (place.has_number d)) refl
  found_at t (suc i) (x ∷ xs) d asc place =
      let h : key (get_or xs i d) ≡ t = place.has_number d in
      let r : key x < key (get_or xs i d) = All-from_recursion (λ y. key x < key y) xs asc.0 i d (omega (arith, place.in_range)) in
      rw (ne_eqb (key x) t (λ (e : key x ≡ t). omega arith)) (found_at t i xs d asc.1 (place_tail x xs t i place))

  -- a property of each element, of the new one and of changed ones holds after an insertion
  pub all_placed : (P : X → Type 0) (t : ℕ) (new : X) (change : X → X) → P new → ((y : X) → P y → P (change y)) → (xs : List X) → AllByRecursion P xs → AllByRecursion P (upserted key t new change xs)
  all_placed P t new change p keeps [] all = (p, tt)
  all_placed P t new change p keeps (x ∷ xs) all =
      grind (arith, cases_eq (key x) t, eq-eqb, ne_eqb, cases_lt t (key x), lt_ltb, le_ltb, all_placed P t new change p keeps xs all.1)

  -- the numbers after an insertion are the earlier ones and the inserted one
  pub any_placed : (t : ℕ) (new : X) (change : X → X) → key new ≡ t → ((y : X) → key (change y) ≡ key y) → (u : ℕ) (xs : List X)
      → list_any (λ y. key y == u) (upserted key t new change xs) ≡ (list_any (λ y. key y == u) xs || (t == u))
  any_placed t new change is same u [] = rw is (or_comm (t == u) false)
  any_placed t new change is same u (x ∷ xs) =
      grind (arith, cases_eq (key x) t, eq-eqb, ne_eqb, cases_lt t (key x), lt_ltb, le_ltb, any_placed t new change is same u xs)

-- a view of the elements that keeps their numbers
module _ {X Y : Type 0} (key : X → ℕ) (key_of : Y → ℕ) (f : X → Y) (same : (x : X) → key_of (f x) ≡ key x) where
  pub map-upserted : (t : ℕ) (new : X) (change : X → X) (change_of : Y → Y) → ((x : X) → f (change x) ≡ change_of (f x)) → (xs : List X)
      → map f (upserted key t new change xs) ≡ upserted key_of t (f new) change_of (map f xs)
  map-upserted t new change change_of is [] = refl
  map-upserted t new change change_of is (x ∷ xs) =
      grind (arith, map-upserted t new change change_of is xs, map f (upserted key t new change xs), map f xs, map)

  pub map-others : (t : ℕ) (xs : List X) → map f (filter (λ x. not (key x == t)) xs) ≡ filter (λ y. not (key_of y == t)) (map f xs)
  map-others t [] = refl
  map-others t (x ∷ xs) = grind (arith, map-others t xs, map, map f xs)

  pub any-map : (t : ℕ) (xs : List X) → list_any (λ y. key_of y == t) (map f xs) ≡ list_any (λ x. key x == t) xs
  any-map t [] = refl
  any-map t (x ∷ xs) = rw (same x) (ap (λ b. key x == t || b) (any-map t xs))
