-- The numbers of the active transactions after a renewal: their places in ascending order.
use Rattle.std.proofs.Common.{◌≡◌, ℕ, zero, suc, ◌+◌, ◌<◌, ◌≤◌, true, cond, List, [], ◌∷◌, ◌++◌, length, refl, sym, ◌∙◌, ap, subst, inl, inr, ⊎_elim, arith, count_by, nat_lt, Some}
use Rattle.std.specs.List.{AllByRecursion, range_with_len, slice_get}
use Rattle.std.proofs.lemmas.Bool.{cases_eq, lt-ltb, le-ltb}
use Rattle.std.proofs.lemmas.List.Sums.{sum_by-cons}
use Rattle.esr_history.specs.Events.{begin_records, txn_numbers, is_active}
use Rattle.esr_history.specs.Machine.{Schedule, accepted_in}
use Rattle.esr_history.proofs.WellFormed.{active_parts}
use Rattle.esr_history.proofs.LegalWellFormed.{begun_in_range}
use Rattle.esr_history.proofs.Membership.{In, Pairs, each_in, each_at, Pairs-filter, In-filter, In-of_filter, get_seam}
use Rattle.esr_core.specs.Carried.{active_numbers, new_number}

In-range_low : (a n t : ℕ) → In t (range_with_len a n) → a ≤ t
In-range_low a zero t i = absurd i
In-range_low a (suc n) t i = ⊎_elim (λ e. let h : a ≡ t = e in omega arith) (λ j. let h : a + 1 ≤ t = In-range_low (a + 1) n t j in omega arith) i

pub In-range : (a n t : ℕ) → a ≤ t → t < a + n → In t (range_with_len a n)
In-range a zero t low high = absurd (omega arith)
In-range a (suc n) t low high = ⊎_elim (λ e. inl e) (λ ne. inr (In-range (a + 1) n t (omega arith) (omega arith))) (cases_eq a t)

range_ascending : (a n : ℕ) → Pairs (λ u v. u < v) (range_with_len a n)
range_ascending a zero = tt
range_ascending a (suc n) = (each_in (λ v. a < v) (range_with_len (a + 1) n) (λ v i. let l : a + 1 ≤ v = In-range_low (a + 1) n v i in omega arith), range_ascending (a + 1) n)

-- an element with the elements before it and those after it
pub record IsSplit {X : Type 0} (xs : List X) (x : X) : Type 0 where
  pub before : List X
  pub after : List X
  pub is : xs ≡ before ++ x ∷ after

pub split_at : {X : Type 0} (xs : List X) (x : X) → In x xs → IsSplit xs x
split_at [] x i = absurd i
split_at (y ∷ ys) x i =
    ⊎_elim (λ e. record { before = []; after = ys; is = ap (λ z. z ∷ ys) e })
    (λ j. let s = split_at ys x j in record { before = y ∷ s.before; after = s.after; is = ap (λ zs. y ∷ zs) s.is }) i

count_above : (t : ℕ) (xs : List ℕ) → AllByRecursion (λ v. t < v) xs → count_by (λ u. nat_lt u t) xs ≡ 0
count_above t [] all = refl
count_above t (x ∷ xs) all =
    let k = sum_by-cons (λ u. cond (nat_lt u t) 1 0) x xs in
    let l : t < x = all.0 in
    let rest : count_by (λ u. nat_lt u t) xs ≡ 0 = count_above t xs all.1 in
    k ∙ rw (le-ltb x t (omega arith)) (omega (arith, rest))

pub count_before : (ys zs : List ℕ) (t : ℕ) → Pairs (λ u v. u < v) (ys ++ t ∷ zs) → count_by (λ u. nat_lt u t) (ys ++ t ∷ zs) ≡ length ys
count_before [] zs t p =
    let k = sum_by-cons (λ u. cond (nat_lt u t) 1 0) t zs in
    let rest : count_by (λ u. nat_lt u t) zs ≡ 0 = count_above t zs p.0 in
    k ∙ rw (le-ltb t t (omega arith)) (omega (arith, rest))
count_before (y ∷ ys) zs t p =
    let k = sum_by-cons (λ u. cond (nat_lt u t) 1 0) y (ys ++ t ∷ zs) in
    let l : y < t = each_at (λ v. y < v) (ys ++ t ∷ zs) t p.0 (here ys) in
    let rest : count_by (λ u. nat_lt u t) (ys ++ t ∷ zs) ≡ length ys = count_before ys zs t p.1 in
    k ∙ rw (lt-ltb y t l) (omega (arith, rest))
  where
    here : (ys : List ℕ) → In t (ys ++ t ∷ zs)
    here [] = inl refl
    here (y ∷ ys) = inr (here ys)

same_some : (a b : ℕ) → Some a ≡ Some b → a ≡ b
same_some a b e = cc

module _ (h : Schedule) where
  pub active_ascending : Pairs (λ u v. u < v) (active_numbers h)
  active_ascending = Pairs-filter (λ u v. u < v) (is_active (accepted_in h)) (txn_numbers (accepted_in h)) (range_ascending 1 (length (begin_records (accepted_in h))))

  pub active_in : (t : ℕ) → is_active (accepted_in h) t ≡ true → In t (active_numbers h)
  active_in t act =
      let n = begun_in_range (accepted_in h) t (active_parts (accepted_in h) t act).0 in
      In-filter (is_active (accepted_in h)) (txn_numbers (accepted_in h)) t (In-range 1 (length (begin_records (accepted_in h))) t n.0 n.1) act

  pub in_active : (t : ℕ) → In t (active_numbers h) → is_active (accepted_in h) t ≡ true
  in_active t i = (In-of_filter (is_active (accepted_in h)) (txn_numbers (accepted_in h)) t i).1

  -- the new number of the element after some others
  pub number_after : (ys zs : List ℕ) (t : ℕ) → active_numbers h ≡ ys ++ t ∷ zs → (new_number h t).0 ≡ length ys + 1
  number_after ys zs t is = ap (λ n. n + 1) (ap (count_by (λ u. nat_lt u t)) is ∙ count_before ys zs t (subst (Pairs (λ u v. u < v)) is active_ascending))

  pub at_place : (t : ℕ) → is_active (accepted_in h) t ≡ true → slice_get (active_numbers h) (count_by (λ u. nat_lt u t) (active_numbers h)) ≡ Some t
  at_place t act =
      let s = split_at (active_numbers h) t (active_in t act) in
      let place : count_by (λ u. nat_lt u t) (active_numbers h) ≡ length s.before =
      ap (count_by (λ u. nat_lt u t)) s.is ∙ count_before s.before s.after t (subst (Pairs (λ u v. u < v)) s.is active_ascending) in
      ap (slice_get (active_numbers h)) place ∙ (ap (λ xs. slice_get xs (length s.before)) s.is ∙ get_seam s.before t s.after)

  pub new_number_injective : (s t : ℕ) → is_active (accepted_in h) s ≡ true → is_active (accepted_in h) t ≡ true → (new_number h s).0 ≡ (new_number h t).0 → s ≡ t
  new_number_injective s t first second same =
      let e : count_by (λ u. nat_lt u s) (active_numbers h) ≡ count_by (λ u. nat_lt u t) (active_numbers h) = omega (arith, same) in
      same_some s t (sym (at_place s first) ∙ (ap (slice_get (active_numbers h)) e ∙ at_place t second))
