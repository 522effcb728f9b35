-- The costs of the sets of a problem are those of the query that it represents.
use Rattle.std.proofs.Common.{◌≡◌, ℕ, zero, suc, ℤ, ◌+◌, ◌<◌, ◌≤◌, Bool, true, false, cond, ◌||◌, eqb, List, [], ◌∷◌, length, filter, map, get_or, sum_by, refl, sym, ap, ◌∙◌, subst, inl, inr, arith}
use Rattle.std.specs.List.{list_any, range_with_len, AllByRecursion}
use Rattle.std.proofs.lemmas.Bool.{cases_eq, eq-eqb, ne_eqb}
use Rattle.std.proofs.lemmas.List.Sums.{sum_by-cons}
use Rattle.std.proofs.lemmas.List.Elements.{recursion_from_All}
use Rattle.std.proofs.lemmas.List.FromFn.{get_or-map-range_with_len}
use mathlib.Core.Bool.{or-true}
use Rattle.esr_history.specs.Machine.{DistanceFunction, Schedule, value_distance}
use Rattle.esr_history.specs.Operations.{Operation}
use Rattle.esr_history.specs.Serial.{state}
use Rattle.esr_history.specs.Queries.{updates_committed_before, reads_by, distance_from, members, cost}
use Rattle.esr_history.proofs.Membership.{In, each_in, each_at}
use Rattle.esr_cert.specs.Problem as problems
use Rattle.esr_cert.specs.Problem.{Problem, version, chain_cost}
use Rattle.esr_order.specs.Relevant.{has_written}
use Rattle.esr_audit.specs.Problems.{passes_at, places, items_read, writers_of, read_distance, version_cost, chain_for, IsProblemOf}
use Rattle.esr_audit.proofs.Values.{state_by_version}
use Rattle.esr_audit.proofs.Places.{places_version, version_le}

-- a term that one number alone has counts once over numbers in a row that pass a test which it passes
past : (P : ℕ → Bool) (f : ℕ → ℕ) (k a n : ℕ) → k < a → sum_by (λ x. cond (eqb k x) (f x) 0) (filter P (range_with_len a n)) ≡ 0
past P f k a zero l = refl
past P f k a (suc n) l = at (P a) (past P f k (a + 1) n (omega arith))
  where
    at : (b : Bool) → sum_by (λ x. cond (eqb k x) (f x) 0) (filter P (range_with_len (a + 1) n)) ≡ 0 → sum_by (λ x. cond (eqb k x) (f x) 0) (cond b (a ∷ filter P (range_with_len (a + 1) n)) (filter P (range_with_len (a + 1) n))) ≡ 0
    at true rest =
        let skip : cond (eqb k a) (f a) 0 ≡ 0 = ap (λ b. cond b (f a) 0) (ne_eqb k a (λ (e : k ≡ a). omega arith)) in
        omega (arith, sum_by-cons (λ x. cond (eqb k x) (f x) 0) a (filter P (range_with_len (a + 1) n)), skip, rest)
    at false rest = rest

once : (P : ℕ → Bool) (f : ℕ → ℕ) (k a n : ℕ) → a ≤ k → k < a + n → P k ≡ true → sum_by (λ x. cond (eqb k x) (f x) 0) (filter P (range_with_len a n)) ≡ f k
once P f k a zero low high t = absurd (omega arith)
once P f k a (suc n) low high t =
    elim (cases_eq k a) [
      | inl e ↦
          let here : P a ≡ true = subst (λ j. P j ≡ true) e t in
          ap (λ b. sum_by (λ x. cond (eqb k x) (f x) 0) (cond b (a ∷ filter P (range_with_len (a + 1) n)) (filter P (range_with_len (a + 1) n)))) here
          ∙ (let c : cond (eqb k a) (f a) 0 ≡ f a = ap (λ b. cond b (f a) 0) (eq-eqb k a e) in
          let g : f a ≡ f k = ap f (sym e) in
          omega (arith, sum_by-cons (λ x. cond (eqb k x) (f x) 0) a (filter P (range_with_len (a + 1) n)), c, g, past P f k (a + 1) n (omega arith)))
      | inr ne ↦ at (P a) (once P f k (a + 1) n (omega arith) (omega arith) t) ne
    ]
  where
    at : (b : Bool) → sum_by (λ x. cond (eqb k x) (f x) 0) (filter P (range_with_len (a + 1) n)) ≡ f k → (k ≡ a → ⊥) → sum_by (λ x. cond (eqb k x) (f x) 0) (cond b (a ∷ filter P (range_with_len (a + 1) n)) (filter P (range_with_len (a + 1) n))) ≡ f k
    at true rest ne =
        let skip : cond (eqb k a) (f a) 0 ≡ 0 = ap (λ b. cond b (f a) 0) (ne_eqb k a ne) in
        omega (arith, sum_by-cons (λ x. cond (eqb k x) (f x) 0) a (filter P (range_with_len (a + 1) n)), skip, rest)
    at false rest ne = rest

sum_of_sums : {X : Type 0} (f g : X → ℕ) (xs : List X) → sum_by (λ x. f x + g x) xs ≡ sum_by f xs + sum_by g xs
sum_of_sums f g [] = refl
sum_of_sums f g (x ∷ xs) = omega (arith, sum_by-cons (λ x. f x + g x) x xs, sum_by-cons f x xs, sum_by-cons g x xs, sum_of_sums f g xs)

pub sum_zero : {X : Type 0} (xs : List X) → sum_by (λ (x : X). 0) xs ≡ 0
sum_zero [] = refl
sum_zero {X} (x ∷ xs) = omega (arith, sum_by-cons (λ (x : X). 0) x xs, sum_zero xs)

pub sum_same : {X : Type 0} (f g : X → ℕ) (xs : List X) → AllByRecursion (λ x. f x ≡ g x) xs → sum_by f xs ≡ sum_by g xs
sum_same f g [] a = refl
sum_same f g (x ∷ xs) a = omega (arith, sum_by-cons f x xs, sum_by-cons g x xs, sum_same f g xs a.1, a.0)

pub sum_mapped : {X Y : Type 0} (f : Y → ℕ) (g : X → Y) (xs : List X) → sum_by f (map g xs) ≡ sum_by (λ x. f (g x)) xs
sum_mapped f g [] = refl
sum_mapped f g (x ∷ xs) = omega (arith, sum_by-cons f (g x) (map g xs), sum_by-cons (λ x. f (g x)) x xs, sum_mapped f g xs)

-- the reads, item by item
pub by_item : (g : ℕ → Operation → ℕ) (P : ℕ → Bool) (n : ℕ) (os : List Operation) → AllByRecursion (λ (o : Operation). (P o.item ≡ true) × (o.item < n)) os
    → sum_by (λ x. sum_by (λ (o : Operation). cond (eqb o.item x) (g x o) 0) os) (filter P (range_with_len 0 n)) ≡ sum_by (λ (o : Operation). g o.item o) os
by_item g P n [] a = sum_zero (filter P (range_with_len 0 n))
by_item g P n (o ∷ os) a =
    sum_same (λ x. sum_by (λ (o : Operation). cond (eqb o.item x) (g x o) 0) (o ∷ os)) (λ x. cond (eqb o.item x) (g x o) 0 + sum_by (λ (o : Operation). cond (eqb o.item x) (g x o) 0) os) (filter P (range_with_len 0 n))
    (each_in (λ x. sum_by (λ (o : Operation). cond (eqb o.item x) (g x o) 0) (o ∷ os) ≡ cond (eqb o.item x) (g x o) 0 + sum_by (λ (o : Operation). cond (eqb o.item x) (g x o) 0) os) (filter P (range_with_len 0 n)) (λ x i. sum_by-cons (λ (o : Operation). cond (eqb o.item x) (g x o) 0) o os))
    ∙ sum_of_sums (λ x. cond (eqb o.item x) (g x o) 0) (λ x. sum_by (λ (o : Operation). cond (eqb o.item x) (g x o) 0) os) (filter P (range_with_len 0 n))
    ∙ (let first : sum_by (λ x. cond (eqb o.item x) (g x o) 0) (filter P (range_with_len 0 n)) ≡ g o.item o = once P (λ x. g x o) o.item 0 n (omega arith) (omega (arith, (a.0).1)) (a.0).0 in
    let rest = by_item g P n os a.1 in
    omega (arith, first, rest, sum_by-cons (λ (o : Operation). g o.item o) o os))

-- If the items that q read are below the count of items, the distance of its reads is the sum over these items.
pub distance_by_item : (d : DistanceFunction) (h : Schedule) (q : ℕ) (w : ℕ → ℤ) → AllByRecursion (λ (o : Operation). o.item < length h.opening) (reads_by h q)
    → sum_by (λ x. read_distance d h q x (w x)) (items_read h q) ≡ distance_from d h q w
distance_by_item d h q w inside =
    by_item (λ x (o : Operation). value_distance d h x o.value (w x)) (λ x. list_any (λ (o : Operation). eqb o.item x) (reads_by h q)) (length h.opening) (reads_by h q)
    (each_in (λ (o : Operation). (list_any (λ (p : Operation). eqb p.item o.item) (reads_by h q) ≡ true) × (o.item < length h.opening)) (reads_by h q)
    (λ o i. (read_here (reads_by h q) o i, each_at (λ (o : Operation). o.item < length h.opening) (reads_by h q) o inside i)))
  where
    read_here : (os : List Operation) (o : Operation) → In o os → list_any (λ (p : Operation). eqb p.item o.item) os ≡ true
    read_here [] o i = absurd i
    read_here (p ∷ os) o (inl e) = ap (λ b. b || list_any (λ (p : Operation). eqb p.item o.item) os) (eq-eqb p.item o.item (ap (λ (r : Operation). r.item) e))
    read_here (p ∷ os) o (inr i) = let rest = read_here os o i in ap (λ b. eqb p.item o.item || b) rest ∙ or-true (eqb p.item o.item)

module _ (d : DistanceFunction) (h : Schedule) (q : ℕ) (p : Problem) (is_problem : IsProblemOf d h q p) (inside : AllByRecursion (λ (o : Operation). o.item < length h.opening) (reads_by h q)) where
  chain_is : (S : ℕ → Bool) (x : ℕ) → filter (has_written h x) p.updates ≡ writers_of h q x → chain_cost (passes_at p.updates S) (chain_for d h q p.updates x) ≡ read_distance d h q x (state h (members h q S) x)
  chain_is S x all =
      let v : version (passes_at p.updates S) (places p.updates (has_written h x)) ≡ version S (writers_of h q x) = places_version p.updates S (has_written h x) ∙ ap (version S) all in
      ap (λ j. get_or (map (version_cost d h q x) (range_with_len 0 (suc (length (writers_of h q x))))) j 0) v
      ∙ get_or-map-range_with_len (version_cost d h q x) 0 (suc (length (writers_of h q x))) (version S (writers_of h q x)) (version S (writers_of h q x)) 0 (let l = version_le S (writers_of h q x) in omega arith) (omega arith)
      ∙ ap (read_distance d h q x) (state_by_version h x S (updates_committed_before h q))

  -- the cost of a set of positions is that of the transactions there
  pub cost_is_distance : (S : ℕ → Bool) → problems.cost p (passes_at p.updates S) ≡ cost d h q S
  cost_is_distance S =
      ap (sum_by (chain_cost (passes_at p.updates S))) is_problem.chains
      ∙ sum_mapped (chain_cost (passes_at p.updates S)) (chain_for d h q p.updates) (items_read h q)
      ∙ sum_same (λ x. chain_cost (passes_at p.updates S) (chain_for d h q p.updates x)) (λ x. read_distance d h q x (state h (members h q S) x)) (items_read h q)
      (each_in (λ x. chain_cost (passes_at p.updates S) (chain_for d h q p.updates x) ≡ read_distance d h q x (state h (members h q S) x)) (items_read h q)
      (λ x i. chain_is S x (each_at (λ x. filter (has_written h x) p.updates ≡ writers_of h q x) (items_read h q) x (recursion_from_All (λ x. filter (has_written h x) p.updates ≡ writers_of h q x) (items_read h q) is_problem.writers) i)))
      ∙ distance_by_item d h q (state h (members h q S)) inside
