-- A set of positions as a list, and the transactions at them.
use Rattle.std.proofs.Common.{◌≡◌, ℕ, zero, suc, ◌+◌, ◌<◌, ◌≤◌, Bool, true, false, cond, not, ◌||◌, eqb, List, [], ◌∷◌, length, filter, refl, sym, ap, ◌∙◌, inl, inr, arith, Option, Some, nat_lt}
use Rattle.std.specs.List.{list_all, filter_map, cons_option, slice_get, range_with_len, AllByRecursion}
use Rattle.std.proofs.lemmas.Bool.{cases_eq, eq-eqb, ne_eqb, true≢false, and_parts, or_left, or_right, ltb-true, not-true}
use Rattle.std.proofs.lemmas.Option.{same_Some}
use Rattle.esr_order.specs.Placements.{is_among}
use Rattle.esr_cert.specs.Problem.{in_set, is_strictly_ascending, is_distinct}
use Rattle.esr_audit.specs.Problems.{passes_at, places}
use Rattle.esr_audit.proofs.Smallest.{passes_here, element, known_at}

in_set_at : (us : List ℕ) (i u : ℕ) → slice_get us i ≡ Some u → in_set us u ≡ true
in_set_at [] i u e = absurd (cc)
in_set_at (w ∷ us) zero u e = or_left (eqb w u) (in_set us u) (eq-eqb w u (same_Some w u e))
in_set_at (w ∷ us) (suc i) u e = or_right (eqb w u) (in_set us u) (in_set_at us i u e)

-- if no number occurs twice, it has one index
same_place : (us : List ℕ) (i j u : ℕ) → is_distinct us ≡ true → slice_get us i ≡ Some u → slice_get us j ≡ Some u → i ≡ j
same_place [] i j u dist a b = absurd (cc)
same_place (w ∷ us) zero zero u dist a b = refl
same_place (w ∷ us) zero (suc j) u dist a b =
    let new : not (in_set us w) ≡ true = (and_parts (not (in_set us w)) (is_distinct us) dist).0 in
    absurd (true≢false (sym (in_set_at us j u b) ∙ ap (in_set us) (sym (same_Some w u a)) ∙ not-true (in_set us w) new))
same_place (w ∷ us) (suc i) zero u dist a b =
    let new : not (in_set us w) ≡ true = (and_parts (not (in_set us w)) (is_distinct us) dist).0 in
    absurd (true≢false (sym (in_set_at us i u a) ∙ ap (in_set us) (sym (same_Some w u b)) ∙ not-true (in_set us w) new))
same_place (w ∷ us) (suc i) (suc j) u dist a b = ap suc (same_place us i j u (and_parts (not (in_set us w)) (is_distinct us) dist).1 a b)

-- a transaction is among those at some positions if and only if its own position is one of them
pub among_at : (us : List ℕ) → is_distinct us ≡ true → (set : List ℕ) → list_all (λ x. nat_lt x (length us)) set ≡ true → (i u : ℕ) → slice_get us i ≡ Some u → is_among (filter_map (slice_get us) set) u ≡ in_set set i
among_at us dist [] known i u e = refl
among_at us dist (j ∷ set) known i u e =
    let both : (nat_lt j (length us) ≡ true) × (list_all (λ x. nat_lt x (length us)) set ≡ true) = and_parts (nat_lt j (length us)) (list_all (λ x. nat_lt x (length us)) set) known in
    let here : (w : ℕ) × (slice_get us j ≡ Some w) = element us j (ltb-true j (length us) both.0) in
    ap (λ (o : Option ℕ). is_among (cons_option o (filter_map (slice_get us) set)) u) here.1
    ∙ ap (λ b. eqb here.0 u || b) (among_at us dist set both.1 i u e)
    ∙ ap (λ b. b || in_set set i) (elim (cases_eq here.0 u) [
      | inl s ↦ eq-eqb here.0 u s ∙ sym (eq-eqb j i (same_place us j i u dist (here.1 ∙ ap Some s) e))
      | inr ne ↦ ne_eqb here.0 u ne ∙ sym (ne_eqb j i (λ (k : j ≡ i). ne (same_Some here.0 u (sym here.1 ∙ ap (slice_get us) k ∙ e))))
    ])

-- ---- ascending lists of positions

above : (x : ℕ) (rest : List ℕ) → is_strictly_ascending (x ∷ rest) ≡ true → AllByRecursion (λ y. x < y) rest
above x [] a = tt
above x (y ∷ rest) a =
    let both : (nat_lt x y ≡ true) × (is_strictly_ascending (y ∷ rest) ≡ true) = and_parts (nat_lt x y) (is_strictly_ascending (y ∷ rest)) a in
    let l : x < y = ltb-true x y both.0 in
    (l, weaker rest (above y rest both.1) l)
  where
    weaker : (zs : List ℕ) → AllByRecursion (λ z. y < z) zs → x < y → AllByRecursion (λ z. x < z) zs
    weaker [] b l = tt
    weaker (z ∷ zs) b l = (omega (arith, b.0), weaker zs b.1 l)

tail_ascends : (x : ℕ) (rest : List ℕ) → is_strictly_ascending (x ∷ rest) ≡ true → is_strictly_ascending rest ≡ true
tail_ascends x [] a = refl
tail_ascends x (y ∷ rest) a = (and_parts (nat_lt x y) (is_strictly_ascending (y ∷ rest)) a).1

pub filter_agree : (P Q : ℕ → Bool) (a n : ℕ) → ((x : ℕ) → a ≤ x → x < a + n → P x ≡ Q x) → filter P (range_with_len a n) ≡ filter Q (range_with_len a n)
filter_agree P Q a zero same = refl
filter_agree P Q a (suc n) same =
    ap (λ b. cond b (a ∷ filter P (range_with_len (a + 1) n)) (filter P (range_with_len (a + 1) n))) (same a (omega arith) (omega arith))
    ∙ ap (λ xs. cond (Q a) (a ∷ xs) xs) (filter_agree P Q (a + 1) n (λ x l m. same x (omega arith) (omega arith)))

not_in : (set : List ℕ) (a x : ℕ) → AllByRecursion (λ y. a < y) set → x ≤ a → in_set set x ≡ false
not_in [] a x l k = refl
not_in (y ∷ set) a x l k = ap (λ b. b || in_set set x) (ne_eqb y x (λ (e : y ≡ x). let m : a < y = l.0 in omega arith)) ∙ not_in set a x l.1 k

nothing : (a n : ℕ) → filter (in_set []) (range_with_len a n) ≡ []
nothing a zero = refl
nothing a (suc n) = nothing (a + 1) n

-- an ascending list of positions is the positions that it has
pub ascending_range : (set : List ℕ) (a n : ℕ) → is_strictly_ascending set ≡ true → AllByRecursion (λ x. (a ≤ x) × (x < a + n)) set → set ≡ filter (in_set set) (range_with_len a n)
ascending_range [] a n up l = sym (nothing a n)
ascending_range (s ∷ set) a zero up l = let b : (a ≤ s) × (s < a + 0) = l.0 in absurd (omega arith)
ascending_range (s ∷ set) a (suc n) up l =
    let b : (a ≤ s) × (s < a + suc n) = l.0 in
    let more : AllByRecursion (λ y. s < y) set = above s set up in
    let rest : (c : ℕ) → AllByRecursion (λ x. (c ≤ x) × (x < c + n)) set → set ≡ filter (in_set set) (range_with_len c n) = λ c. ascending_range set c n (tail_ascends s set up) in
    let whole : AllByRecursion (λ x. (a + 1 ≤ x) × (x < (a + 1) + n)) (s ∷ set) → s ∷ set ≡ filter (in_set (s ∷ set)) (range_with_len (a + 1) n) = ascending_range (s ∷ set) (a + 1) n up in
    elim (cases_eq s a) [
      | inl e ↦
          ap (λ xs. s ∷ xs) (rest (a + 1) (later set more l.1 e))
          ∙ ap (λ x. x ∷ filter (in_set set) (range_with_len (a + 1) n)) e
          ∙ ap (λ xs. a ∷ xs) (filter_agree (in_set set) (in_set (s ∷ set)) (a + 1) n (λ x low high. sym (ap (λ b. b || in_set set x) (ne_eqb s x (λ (k : s ≡ x). omega arith)))))
          ∙ sym (ap (λ c. cond c (a ∷ filter (in_set (s ∷ set)) (range_with_len (a + 1) n)) (filter (in_set (s ∷ set)) (range_with_len (a + 1) n))) (or_left (eqb s a) (in_set set a) (eq-eqb s a e)))
      | inr ne ↦
          whole ((omega arith, omega arith), beyond set more l.1 (let m : a < s = omega arith in m))
          ∙ sym (ap (λ c. cond c (a ∷ filter (in_set (s ∷ set)) (range_with_len (a + 1) n)) (filter (in_set (s ∷ set)) (range_with_len (a + 1) n)))
          (ap (λ b. b || in_set set a) (ne_eqb s a ne) ∙ not_in set s a more (omega arith)))
    ]
  where
    later : (ys : List ℕ) → AllByRecursion (λ y. s < y) ys → AllByRecursion (λ x. (a ≤ x) × (x < a + suc n)) ys → s ≡ a → AllByRecursion (λ x. (a + 1 ≤ x) × (x < (a + 1) + n)) ys
    later [] m b e = tt
    later (y ∷ ys) m b e = ((let lt : s < y = m.0 in omega arith, let k : (a ≤ y) × (y < a + suc n) = b.0 in omega (arith, k.1)), later ys m.1 b.1 e)

    beyond : (ys : List ℕ) → AllByRecursion (λ y. s < y) ys → AllByRecursion (λ x. (a ≤ x) × (x < a + suc n)) ys → a < s → AllByRecursion (λ x. (a + 1 ≤ x) × (x < (a + 1) + n)) ys
    beyond [] m b lt = tt
    beyond (y ∷ ys) m b lt = ((let k : s < y = m.0 in omega arith, let k : (a ≤ y) × (y < a + suc n) = b.0 in omega (arith, k.1)), beyond ys m.1 b.1 lt)

-- the transactions at the places of those that pass
given_from : (us : List ℕ) (S : ℕ → Bool) (rest : List ℕ) (a : ℕ) → ((k : ℕ) → slice_get us (a + k) ≡ slice_get rest k) → filter_map (slice_get us) (filter (passes_at us S) (range_with_len a (length rest))) ≡ filter S rest
given_from us S [] a g = refl
given_from us S (u ∷ rest) a g =
    let e : a + 0 ≡ a = omega arith in
    let here : slice_get us a ≡ Some u = ap (slice_get us) (sym e) ∙ g 0 in
    at (S u) (passes_here us S a u here) here (given_from us S rest (a + 1) (λ k. let f : (a + 1) + k ≡ a + suc k = omega arith in ap (slice_get us) f ∙ g (suc k)))
  where
    at : (b : Bool) → passes_at us S a ≡ b → slice_get us a ≡ Some u → filter_map (slice_get us) (filter (passes_at us S) (range_with_len (a + 1) (length rest))) ≡ filter S rest
        → filter_map (slice_get us) (cond (passes_at us S a) (a ∷ filter (passes_at us S) (range_with_len (a + 1) (length rest))) (filter (passes_at us S) (range_with_len (a + 1) (length rest)))) ≡ cond b (u ∷ filter S rest) (filter S rest)
    at true e here more =
        ap (λ b. filter_map (slice_get us) (cond b (a ∷ filter (passes_at us S) (range_with_len (a + 1) (length rest))) (filter (passes_at us S) (range_with_len (a + 1) (length rest))))) e
        ∙ ap (λ (o : Option ℕ). cons_option o (filter_map (slice_get us) (filter (passes_at us S) (range_with_len (a + 1) (length rest))))) here
        ∙ ap (λ xs. u ∷ xs) more
    at false e here more =
        ap (λ b. filter_map (slice_get us) (cond b (a ∷ filter (passes_at us S) (range_with_len (a + 1) (length rest))) (filter (passes_at us S) (range_with_len (a + 1) (length rest))))) e ∙ more

pub places_yield : (us : List ℕ) (S : ℕ → Bool) → filter_map (slice_get us) (places us S) ≡ filter S us
places_yield us S = given_from us S us 0 (λ k. ap (slice_get us) (let e : 0 + k ≡ k = omega arith in e))

filter_within : (P Q : ℕ → Bool) → ((u : ℕ) → P u ≡ true → Q u ≡ true) → (us : List ℕ) → filter P (filter Q us) ≡ filter P us
filter_within P Q k [] = refl
filter_within P Q k (u ∷ us) = at (Q u) refl (P u) refl (filter_within P Q k us)
  where
    at : (b : Bool) → Q u ≡ b → (c : Bool) → P u ≡ c → filter P (filter Q us) ≡ filter P us → filter P (cond b (u ∷ filter Q us) (filter Q us)) ≡ cond c (u ∷ filter P us) (filter P us)
    at true e c f more = ap (λ d. cond d (u ∷ filter P (filter Q us)) (filter P (filter Q us))) f ∙ ap (λ xs. cond c (u ∷ xs) xs) more
    at false e true f more = absurd (true≢false (sym (k u f) ∙ e))
    at false e false f more = more

from_tests : (n : ℕ) (set : List ℕ) → list_all (λ x. nat_lt x n) set ≡ true → AllByRecursion (λ x. (0 ≤ x) × (x < 0 + n)) set
from_tests n [] h = tt
from_tests n (x ∷ set) h =
    let both : (nat_lt x n ≡ true) × (list_all (λ x. nat_lt x n) set ≡ true) = and_parts (nat_lt x n) (list_all (λ x. nat_lt x n) set) h in
    let l : x < n = ltb-true x n both.0 in
    ((omega arith, omega arith), from_tests n set both.1)

module _ (us : List ℕ) (dist : is_distinct us ≡ true) (set : List ℕ) (up : is_strictly_ascending set ≡ true) (known : list_all (λ x. nat_lt x (length us)) set ≡ true) where
  abbrev there : List ℕ
  there = filter_map (slice_get us) set

  pub passes_as_set : (i : ℕ) → i < length us → passes_at us (is_among (filter_map (slice_get us) set)) i ≡ in_set set i
  passes_as_set i l =
      let e : (u : ℕ) × (slice_get us i ≡ Some u) = element us i l in
      passes_here us (is_among (filter_map (slice_get us) set)) i e.0 e.1 ∙ among_at us dist set known i e.0 e.1

  -- the transactions at an ascending list of positions, in the order of the list from which they are
  pub before_members : (all : List ℕ) → us ≡ filter (is_among us) all → filter_map (slice_get us) set ≡ filter (is_among (filter_map (slice_get us) set)) all
  before_members all part =
      ap (filter_map (slice_get us)) (
      ascending_range set 0 (length us) up (from_tests (length us) set known)
      ∙ filter_agree (in_set set) (passes_at us (is_among there)) 0 (length us) (λ i low high. sym (passes_as_set i (omega arith))))
      ∙ places_yield us (is_among there)
      ∙ ap (filter (is_among there)) part
      ∙ filter_within (is_among there) (is_among us) (known_at us set) all
