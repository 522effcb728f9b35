-- If the sets of two certificates of a problem are both its smallest closed set of least cost, they are equal as lists.
use Rattle.std.proofs.Common.{◌≡◌, ℕ, ◌<◌, ◌≤◌, true, eqb, ltb, List, [], ◌∷◌, inl, inr, refl, sym, ap, ◌∙◌, arith, true≢false, eq-eqb}
use Rattle.std.specs.List.{list_all}
use Rattle.std.proofs.lemmas.Bool.{or_left, or_right, or_cases, and_parts, eqb-true, ltb-true}
use Rattle.esr_cert.specs.Problem.{Problem, update_count, in_set, is_strictly_ascending, IsSmallestLeastCostSet}
use Rattle.esr_cert.specs.Certificate.{Certificate, Certifies}
use Rattle.esr_cert.proofs.Certified.{IsFaultless, faultless}

-- the tail of a strictly ascending list is strictly ascending, and each of its elements is greater than the head
tail_ascends : (x : ℕ) (xs : List ℕ) → is_strictly_ascending (x ∷ xs) ≡ true → is_strictly_ascending xs ≡ true
tail_ascends x [] h = refl
tail_ascends x (y ∷ ys) h = (and_parts (ltb x y) (is_strictly_ascending (y ∷ ys)) h).1

tail_above : (x : ℕ) (xs : List ℕ) → is_strictly_ascending (x ∷ xs) ≡ true → (u : ℕ) → in_set xs u ≡ true → x < u
tail_above x [] h u t = absurd (true≢false (sym t))
tail_above x (y ∷ ys) h u t =
    let both : (ltb x y ≡ true) × (is_strictly_ascending (y ∷ ys) ≡ true) = and_parts (ltb x y) (is_strictly_ascending (y ∷ ys)) h in
    let l : x < y = ltb-true x y both.0 in
    elim (or_cases (eqb y u) (in_set ys u) t) [
      | inl e ↦ let q : y ≡ u = eqb-true y u e in omega arith
      | inr k ↦ let m : y < u = tail_above y ys both.1 u k in omega arith
    ]

-- a member is the head, or above it
head_least : (x : ℕ) (xs : List ℕ) → is_strictly_ascending (x ∷ xs) ≡ true → (u : ℕ) → in_set (x ∷ xs) u ≡ true → x ≤ u
head_least x xs h u t =
    elim (or_cases (eqb x u) (in_set xs u) t) [
      | inl e ↦ let q : x ≡ u = eqb-true x u e in omega arith
      | inr k ↦ let m : x < u = tail_above x xs h u k in omega arith
    ]

head_in : (x : ℕ) (xs : List ℕ) → in_set (x ∷ xs) x ≡ true
head_in x xs = or_left (eqb x x) (in_set xs x) (eq-eqb x x refl)

-- if x ∷ xs ascends strictly and each of its members is in x ∷ ys, each member of xs is in ys
tail_subset : (x : ℕ) (xs ys : List ℕ) → is_strictly_ascending (x ∷ xs) ≡ true → ((u : ℕ) → in_set (x ∷ xs) u ≡ true → in_set (x ∷ ys) u ≡ true) → (u : ℕ) → in_set xs u ≡ true → in_set ys u ≡ true
tail_subset x xs ys h subset u t =
    let above : x < u = tail_above x xs h u t in
    elim (or_cases (eqb x u) (in_set ys u) (subset u (or_right (eqb x u) (in_set xs u) t))) [
      | inl e ↦ let q : x ≡ u = eqb-true x u e in absurd (omega arith)
      | inr k ↦ k
    ]

-- strictly ascending lists with the same members are equal
ascending_lists_ext : (xs ys : List ℕ) → is_strictly_ascending xs ≡ true → is_strictly_ascending ys ≡ true → ((u : ℕ) → in_set xs u ≡ true → in_set ys u ≡ true) → ((u : ℕ) → in_set ys u ≡ true → in_set xs u ≡ true) → xs ≡ ys
ascending_lists_ext [] [] a b f g = refl
ascending_lists_ext [] (y ∷ ys) a b f g = absurd (true≢false (sym (g y (head_in y ys))))
ascending_lists_ext (x ∷ xs) [] a b f g = absurd (true≢false (sym (f x (head_in x xs))))
ascending_lists_ext (x ∷ xs) (y ∷ ys) a b f g =
    let le : y ≤ x = head_least y ys b x (f x (head_in x xs)) in
    let ge : x ≤ y = head_least x xs a y (g y (head_in y ys)) in
    let e : y ≡ x = omega arith in
    let b' : is_strictly_ascending (x ∷ ys) ≡ true = ap (λ w. is_strictly_ascending (w ∷ ys)) (sym e) ∙ b in
    let f' : (u : ℕ) → in_set (x ∷ xs) u ≡ true → in_set (x ∷ ys) u ≡ true = λ u t. ap (λ w. in_set (w ∷ ys) u) (sym e) ∙ f u t in
    let g' : (u : ℕ) → in_set (x ∷ ys) u ≡ true → in_set (x ∷ xs) u ≡ true = λ u t. g u (ap (λ w. in_set (w ∷ ys) u) e ∙ t) in
    ap (λ zs. x ∷ zs) (ascending_lists_ext xs ys (tail_ascends x xs a) (tail_ascends x ys b') (tail_subset x xs ys a f') (tail_subset x ys xs b' g')) ∙ ap (λ w. w ∷ ys) (sym e)

-- each member of a list of positions below n is below n
member_in_range : (n : ℕ) (xs : List ℕ) → list_all (λ u. ltb u n) xs ≡ true → (u : ℕ) → in_set xs u ≡ true → u < n
member_in_range n [] h u t = absurd (true≢false (sym t))
member_in_range n (x ∷ xs) h u t =
    let both : (ltb x n ≡ true) × (list_all (λ u. ltb u n) xs ≡ true) = and_parts (ltb x n) (list_all (λ u. ltb u n) xs) h in
    elim (or_cases (eqb x u) (in_set xs u) t) [
      | inl e ↦ let q : x ≡ u = eqb-true x u e in let l : x < n = ltb-true x n both.0 in omega arith
      | inr k ↦ member_in_range n xs both.1 u k
    ]

pub same_set : (p : Problem) (c d : Certificate) → Certifies p c → Certifies p d → IsSmallestLeastCostSet p (in_set c.set) → IsSmallestLeastCostSet p (in_set d.set) → c.set ≡ d.set
same_set p c d a b s t =
    let f : IsFaultless p c = faultless p c a in
    let g : IsFaultless p d = faultless p d b in
    ascending_lists_ext c.set d.set f.ascending g.ascending
    (λ u m. s.smallest (in_set d.set) t.closed (t.least (in_set c.set) s.closed) u (member_in_range (update_count p) c.set f.in_range u m) m)
    (λ u m. t.smallest (in_set c.set) s.closed (s.least (in_set d.set) t.closed) u (member_in_range (update_count p) d.set g.in_range u m) m)
