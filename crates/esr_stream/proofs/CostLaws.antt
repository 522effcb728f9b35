-- The costs of versions by item sum to the cost of a set, plus the offset of each item.
use Rattle.std.proofs.Common.{◌≡◌, ℕ, zero, suc, ℤ, ◌+◌, ◌*◌, ◌<◌, ◌≤◌, Bool, true, false, not, ◌&&◌, eqb, cond, List, [], ◌∷◌, length, map, filter, sum_by, refl, sym, ap, ◌∙◌, subst, inl, inr, arith, All, Vec, Global, get_or}
use Rattle.std.specs.List.{range_with_len, AllByRecursion}
use Rattle.std.proofs.Math.Nat.{suc-mul}
use Rattle.std.proofs.lemmas.Bool.{cases_lt, cases_eq, eq-eqb, ne_eqb, and_parts}
use Rattle.std.proofs.lemmas.List.{length-map}
use Rattle.std.proofs.lemmas.List.Sums.{sum_by-cons}
use Rattle.std.proofs.lemmas.List.Elements.{All-from_recursion}
use Rattle.esr_items.specs.Values.{IsValue}
use Rattle.esr_history.specs.Events.{is_query, is_committed}
use Rattle.esr_history.specs.Machine.{DistanceFunction, Schedule, IsLegal, accepted_in, value_distance}
use Rattle.esr_history.specs.Operations.{Operation}
use Rattle.esr_history.specs.Ranges.{IsWithinRanges}
use Rattle.esr_history.specs.Serial.{state}
use Rattle.esr_history.specs.Queries.{reads_by, distance_from, members, cost, is_committed_query}
use Rattle.esr_history.proofs.Membership.{each_in, each_at}
use Rattle.esr_history.proofs.WithinRanges.{legal_within_ranges}
use Rattle.esr_order.specs.declared.accesses.Access.{Access}
use Rattle.esr_order.specs.Scans.{access_of, accesses_in}
use Rattle.esr_order.proofs.Accessed.{reads_are}
use Rattle.esr_order.proofs.QueryReads.{reads_counted, reads_in_range}
use Rattle.esr_bound.specs.Amounts.{total, cost_by}
use Rattle.esr_bound.proofs.LowerBound.{range_in}
use Rattle.esr_stream.specs.Reads.{values_of, list_at, distance_sum, offset_cost, AreReadsInRange}

abbrev on_item : ℕ → Access → Bool
on_item x a = eqb a.item.0 x

abbrev reads : Access → Bool
reads a = not a.writes

-- the reads of an item are those of the item among the reads
of_reads : (x : ℕ) (row : List Access) → values_of row x ≡ map (λ (a : Access). a.value) (filter (on_item x) (filter reads row))
of_reads x [] = refl
of_reads x (a ∷ row) = at (not a.writes) (eqb a.item.0 x) refl refl (of_reads x row)
  where
    at : (r i : Bool) → not a.writes ≡ r → eqb a.item.0 x ≡ i → values_of row x ≡ map (λ (a : Access). a.value) (filter (on_item x) (filter reads row))
        → map (λ (a : Access). a.value) (cond (r && i) (a ∷ filter (λ (a : Access). not a.writes && eqb a.item.0 x) row) (filter (λ (a : Access). not a.writes && eqb a.item.0 x) row))
        ≡ map (λ (a : Access). a.value) (filter (on_item x) (cond r (a ∷ filter reads row) (filter reads row)))
    at true true r i rest = ap (λ vs. a.value ∷ vs) rest ∙ sym (ap (λ b. map (λ (a : Access). a.value) (cond b (a ∷ filter (on_item x) (filter reads row)) (filter (on_item x) (filter reads row)))) i)
    at true false r i rest = rest ∙ sym (ap (λ b. map (λ (a : Access). a.value) (cond b (a ∷ filter (on_item x) (filter reads row)) (filter (on_item x) (filter reads row)))) i)
    at false i r e rest = rest

sum_of_reads : (D : ℕ → ℤ → ℤ → ℕ) (x : ℕ) (v : ℤ) (os : List Operation) → distance_sum D x (map (λ (a : Access). a.value) (filter (on_item x) (map access_of os))) v ≡ sum_by (λ (o : Operation). cond (eqb o.item x) (D x o.value v) 0) os
sum_of_reads D x v [] = refl
sum_of_reads D x v (o ∷ os) = at (eqb o.item x) refl (sum_of_reads D x v os)
  where
    at : (b : Bool) → eqb o.item x ≡ b → distance_sum D x (map (λ (a : Access). a.value) (filter (on_item x) (map access_of os))) v ≡ sum_by (λ (o : Operation). cond (eqb o.item x) (D x o.value v) 0) os
        → distance_sum D x (map (λ (a : Access). a.value) (cond b (access_of o ∷ filter (on_item x) (map access_of os)) (filter (on_item x) (map access_of os)))) v ≡ sum_by (λ (o : Operation). cond (eqb o.item x) (D x o.value v) 0) (o ∷ os)
    at true e rest =
        let here : cond (eqb o.item x) (D x o.value v) 0 ≡ D x o.value v = ap (λ b. cond b (D x o.value v) 0) e in
        omega (arith, sum_by-cons (λ a. D x a v) o.value (map (λ (a : Access). a.value) (filter (on_item x) (map access_of os))), sum_by-cons (λ (o : Operation). cond (eqb o.item x) (D x o.value v) 0) o os, here, rest)
    at false e rest =
        let here : cond (eqb o.item x) (D x o.value v) 0 ≡ 0 = ap (λ b. cond b (D x o.value v) 0) e in
        omega (arith, sum_by-cons (λ (o : Operation). cond (eqb o.item x) (D x o.value v) 0) o os, here, rest)

-- the values of an item that q read
values_are : (h : Schedule) (q x : ℕ) → values_of (accesses_in h.entries q) x ≡ map (λ (a : Access). a.value) (filter (on_item x) (map access_of (reads_by h q)))
values_are h q x = of_reads x (accesses_in h.entries q) ∙ ap (λ row. map (λ (a : Access). a.value) (filter (on_item x) row)) (reads_are h q)

plus_each : (f : ℕ → ℕ) (k a n : ℕ) → sum_by (λ x. f x + k) (range_with_len a n) ≡ n * k + sum_by f (range_with_len a n)
plus_each f k a zero = let z : 0 ≡ 0 * k + 0 = omega arith in z
plus_each f k a (suc n) =
    let rest = plus_each f k (a + 1) n in
    let e : suc n * k ≡ k + n * k = omega (arith, suc-mul n k) in
    omega (arith, sum_by-cons (λ x. f x + k) a (range_with_len (a + 1) n), sum_by-cons f a (range_with_len (a + 1) n), rest, e)

-- ---- sums over items

sum_of_sums : {X : Type 0} (f g : X → ℕ) (xs : List X) → sum_by (λ x. f x + g x) xs ≡ sum_by f xs + sum_by g xs
sum_of_sums f g [] = refl
sum_of_sums f g (x ∷ xs) = omega (arith, sum_by-cons (λ x. f x + g x) x xs, sum_by-cons f x xs, sum_by-cons g x xs, sum_of_sums f g xs)

sum_zero : {X : Type 0} (xs : List X) → sum_by (λ (x : X). 0) xs ≡ 0
sum_zero [] = refl
sum_zero {X} (x ∷ xs) = omega (arith, sum_by-cons (λ (x : X). 0) x xs, sum_zero xs)

sum_same : {X : Type 0} (f g : X → ℕ) (xs : List X) → AllByRecursion (λ x. f x ≡ g x) xs → sum_by f xs ≡ sum_by g xs
sum_same f g [] a = refl
sum_same f g (x ∷ xs) a = omega (arith, sum_by-cons f x xs, sum_by-cons g x xs, sum_same f g xs a.1, a.0)

pub total_same : (n : ℕ) (f g : ℕ → ℕ) → ((x : ℕ) → x < n → f x ≡ g x) → total n f ≡ total n g
total_same n f g same = sum_same f g (range_with_len 0 n) (each_in (λ x. f x ≡ g x) (range_with_len 0 n) (λ x i. same x (omega (arith, (range_in 0 n x i).1))))

-- a term of one number counts once over a range that contains this number
past_it : (f : ℕ → ℕ) (k a n : ℕ) → k < a → sum_by (λ x. cond (eqb k x) (f x) 0) (range_with_len a n) ≡ 0
past_it f k a zero l = refl
past_it f k a (suc n) l =
    let skip : cond (eqb k a) (f a) 0 ≡ 0 = ap (λ b. cond b (f a) 0) (ne_eqb k a (λ (e : k ≡ a). omega arith)) in
    omega (arith, sum_by-cons (λ x. cond (eqb k x) (f x) 0) a (range_with_len (a + 1) n), skip, past_it f k (a + 1) n (omega arith))

once : (f : ℕ → ℕ) (k a n : ℕ) → a ≤ k → k < a + n → sum_by (λ x. cond (eqb k x) (f x) 0) (range_with_len a n) ≡ f k
once f k a zero low high = absurd (omega arith)
once f k a (suc n) low high = elim (cases_eq k a) [
  | inl e ↦
      let c : cond (eqb k a) (f a) 0 ≡ f a = ap (λ b. cond b (f a) 0) (eq-eqb k a e) in
      let g : f a ≡ f k = ap f (sym e) in
      omega (arith, sum_by-cons (λ x. cond (eqb k x) (f x) 0) a (range_with_len (a + 1) n), c, g, past_it f k (a + 1) n (omega arith))
  | inr ne ↦
      let skip : cond (eqb k a) (f a) 0 ≡ 0 = ap (λ b. cond b (f a) 0) (ne_eqb k a ne) in
      omega (arith, sum_by-cons (λ x. cond (eqb k x) (f x) 0) a (range_with_len (a + 1) n), skip, once f k (a + 1) n (omega arith) (omega arith))
]

-- the reads, item by item
by_item : (g : ℕ → Operation → ℕ) (n : ℕ) (os : List Operation) → AllByRecursion (λ (o : Operation). o.item < n) os
    → sum_by (λ x. sum_by (λ (o : Operation). cond (eqb o.item x) (g x o) 0) os) (range_with_len 0 n) ≡ sum_by (λ (o : Operation). g o.item o) os
by_item g n [] a = sum_zero (range_with_len 0 n)
by_item g n (o ∷ os) a =
    sum_same (λ x. sum_by (λ (o : Operation). cond (eqb o.item x) (g x o) 0) (o ∷ os)) (λ x. cond (eqb o.item x) (g x o) 0 + sum_by (λ (o : Operation). cond (eqb o.item x) (g x o) 0) os) (range_with_len 0 n)
    (each_in (λ x. sum_by (λ (o : Operation). cond (eqb o.item x) (g x o) 0) (o ∷ os) ≡ cond (eqb o.item x) (g x o) 0 + sum_by (λ (o : Operation). cond (eqb o.item x) (g x o) 0) os) (range_with_len 0 n) (λ x i. sum_by-cons (λ (o : Operation). cond (eqb o.item x) (g x o) 0) o os))
    ∙ sum_of_sums (λ x. cond (eqb o.item x) (g x o) 0) (λ x. sum_by (λ (o : Operation). cond (eqb o.item x) (g x o) 0) os) (range_with_len 0 n)
    ∙ (let first : sum_by (λ x. cond (eqb o.item x) (g x o) 0) (range_with_len 0 n) ≡ g o.item o = once (λ x. g x o) o.item 0 n (omega arith) (omega (arith, a.0)) in
    let rest = by_item g n os a.1 in
    omega (arith, first, rest, sum_by-cons (λ (o : Operation). g o.item o) o os))

-- ---- the lists of values

module _ (d : DistanceFunction) (h : Schedule) (q : ℕ) (opened : All IsValue h.opening) (legal : IsLegal d h) (values_read : List (Vec ℤ Global)) (sized : length values_read ≡ length h.opening) (is : (x : ℕ) → x < length h.opening → list_at values_read x ≡ values_of (accesses_in h.entries q) x) where
  range : IsWithinRanges h
  range = legal_within_ranges d h opened legal

  pub costs_are : (S : ℕ → Bool) → cost_by (length h.opening) (offset_cost (value_distance d h) values_read) h q S ≡ length h.opening * 17592186044416 + cost d h q S
  costs_are S =
      let w : ℕ → ℤ = state h (members h q S) in
      let n : ℕ = length h.opening in
      let D = value_distance d h in
      let parts : ℕ → ℕ = λ x. distance_sum D x (list_at values_read x) (w x) in
      let each : ℕ → ℕ = λ x. sum_by (λ (o : Operation). cond (eqb o.item x) (D x o.value (w x)) 0) (reads_by h q) in
      let a : sum_by parts (range_with_len 0 n) ≡ sum_by each (range_with_len 0 n) =
      sum_same parts each (range_with_len 0 n) (each_in (λ x. parts x ≡ each x) (range_with_len 0 n) (λ x i.
      let l : x < n = omega (arith, (range_in 0 n x i).1) in
      ap (λ vs. distance_sum D x vs (w x)) (is x l ∙ values_are h q x) ∙ sum_of_reads D x (w x) (reads_by h q))) in
      let b : sum_by each (range_with_len 0 n) ≡ distance_from d h q w =
      by_item (λ x (o : Operation). D x o.value (w x)) n (reads_by h q)
      (each_in (λ (o : Operation). o.item < n) (reads_by h q) (λ o i. (each_at (λ (o : Operation). IsValue o.value × (o.item < n)) (reads_by h q) o (reads_in_range h range q) i).1)) in
      plus_each parts 17592186044416 0 n
      ∙ ap (λ s. n * 17592186044416 + s) (a ∙ b)

  past : (x : ℕ) → length h.opening ≤ x → list_at values_read x ≡ []
  past x l = get_past (map (λ (v : Vec ℤ Global). v.items) values_read) x (omega (arith, length-map values_read (λ (v : Vec ℤ Global). v.items), sized, l))
    where
      get_past : (xs : List (List ℤ)) (x : ℕ) → length xs ≤ x → get_or xs x [] ≡ []
      get_past [] x l = refl
      get_past (y ∷ xs) zero l = absurd (omega arith)
      get_past (y ∷ xs) (suc x) l = get_past xs x (omega arith)

  module _ (query : is_committed_query h q ≡ true) where
    few_reads : length (reads_by h q) ≤ 1000
    few_reads = let r = range.reads q (and_parts (is_query (accepted_in h) q) (is_committed (accepted_in h) q) query).0 in omega (arith, reads_counted h q, r)

    few_on : (x : ℕ) (os : List Operation) → length (map (λ (a : Access). a.value) (filter (on_item x) (map access_of os))) ≤ length os
    few_on x [] = omega arith
    few_on x (o ∷ os) = at (eqb o.item x) (few_on x os)
      where
        at : (b : Bool) → length (map (λ (a : Access). a.value) (filter (on_item x) (map access_of os))) ≤ length os → length (map (λ (a : Access). a.value) (cond b (access_of o ∷ filter (on_item x) (map access_of os)) (filter (on_item x) (map access_of os)))) ≤ suc (length os)
        at true rest = omega arith
        at false rest = omega arith

    values_on : (x : ℕ) (os : List Operation) → AllByRecursion (λ (o : Operation). IsValue o.value × (o.item < length h.opening)) os → AllByRecursion IsValue (map (λ (a : Access). a.value) (filter (on_item x) (map access_of os)))
    values_on x [] all = tt
    values_on x (o ∷ os) all = at (eqb o.item x) (values_on x os all.1)
      where
        at : (b : Bool) → AllByRecursion IsValue (map (λ (a : Access). a.value) (filter (on_item x) (map access_of os))) → AllByRecursion IsValue (map (λ (a : Access). a.value) (cond b (access_of o ∷ filter (on_item x) (map access_of os)) (filter (on_item x) (map access_of os))))
        at true rest = ((all.0).0, rest)
        at false rest = rest

    pub are_read : AreReadsInRange values_read
    are_read = record {
      count_within_max = λ x. elim (cases_lt x (length h.opening)) [
        | inl l ↦ let e = ap (λ (vs : List ℤ). length vs) (is x l ∙ values_are h q x) in let f = few_on x (reads_by h q) in omega (arith, e, f, few_reads)
        | inr m ↦ let e = ap (λ (vs : List ℤ). length vs) (past x m) in omega (arith, e)
      ];
      values = λ x. elim (cases_lt x (length h.opening)) [
        | inl l ↦ subst (All IsValue) (sym (is x l ∙ values_are h q x)) (All-from_recursion IsValue (map (λ (a : Access). a.value) (filter (on_item x) (map access_of (reads_by h q)))) (values_on x (reads_by h q) (reads_in_range h range q)))
        | inr m ↦ subst (All IsValue) (sym (past x m)) (All-from_recursion IsValue [] tt)
      ];
    }
