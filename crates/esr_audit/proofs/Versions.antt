-- The versions of an item in an order are the values that its first writers leave.
use Rattle.std.proofs.Common.{◌≡◌, ℕ, zero, suc, ℤ, ◌+◌, Bool, true, false, ◌||◌, cond, eqb, List, [], ◌∷◌, length, take, filter, map, flat_map, sum_by, refl, sym, ap, ◌∙◌, arith, Option, Some, None, append-nil, is_some}
use Rattle.std.specs.List.{list_any, filter_map, cons_option, slice_get, slice_index_or, range_with_len, last_or, AllByRecursion}
use Rattle.std.proofs.lemmas.List.Sums.{sum_by-cons}
use Rattle.std.proofs.lemmas.Option.{get_or_from_slice_get}
use Rattle.std.proofs.lemmas.List.FromFn.{length-map-range_with_len}
use Rattle.esr_items.specs.Values.{value_at}
use Rattle.esr_history.specs.Events.{last_value}
use Rattle.esr_history.specs.Machine.{DistanceFunction, Schedule, accepted_in, value_distance}
use Rattle.esr_history.specs.Operations.{Operation}
use Rattle.esr_history.specs.Serial.{values_by, state}
use Rattle.esr_history.specs.Queries.{reads_by}
use Rattle.esr_history.proofs.LastWriter.{last_value-append, last_value-some}
use Rattle.esr_order.specs.Chains.{Chain, chain_from, some_chain, if_written, last_of, last_among, chain_among, writers_in}
use Rattle.esr_order.specs.Orders.{ConflictOrder, chain_at}
use Rattle.esr_cert.specs.Problem as problems
use Rattle.esr_order.specs.Relevant.{has_written}
use Rattle.esr_audit.specs.Problems.{passes_at, places, writers_of, version_cost, chain_for}
use Rattle.esr_audit.specs.Reads.{values_of, distance_sum, version_values, chain_of_item, item_read_of, ItemRead}
use Rattle.esr_audit.proofs.Values.{values_none, values_some, writers_leave}
use Rattle.esr_audit.proofs.Places.{length-places}

last_from : (a : ℤ) (vs : List ℤ) → last_or (Some a) vs ≡ Some (last_value a vs)
last_from a [] = refl
last_from a (v ∷ vs) = last_from v vs

-- the last of some values, if there is one
last_some : (o : ℤ) (vs : List ℤ) → (vs ≡ [] → ⊥) → last_of vs ≡ Some (last_value o vs)
last_some o [] ne = absurd (ne refl)
last_some o (v ∷ vs) ne = last_from v vs

module _ (h : Schedule) (x : ℕ) where
  abbrev w : ℕ → List ℤ
  w = values_by h x

  wrote_some : (u : ℕ) → is_some (last_of (values_by h x u)) ≡ has_written h x u
  wrote_some u = at (has_written h x u) refl
    where
      at : (b : Bool) → has_written h x u ≡ b → is_some (last_of (values_by h x u)) ≡ b
      at true e = ap is_some (last_some (value_at h.opening x) (values_by h x u) (values_some x u (accepted_in h) e))
      at false e = ap (λ vs. is_some (last_of vs)) (values_none x u (accepted_in h) e)

  -- the last values of the writers
  values_of_writers : (o : ℤ) (us : List ℕ) → filter_map (λ u. last_of (values_by h x u)) us ≡ map (λ u. last_value o (values_by h x u)) (filter (has_written h x) us)
  values_of_writers o [] = refl
  values_of_writers o (u ∷ us) = at (has_written h x u) refl (values_of_writers o us)
    where
      at : (b : Bool) → has_written h x u ≡ b → filter_map (λ u. last_of (values_by h x u)) us ≡ map (λ u. last_value o (values_by h x u)) (filter (has_written h x) us)
          → cons_option (last_of (values_by h x u)) (filter_map (λ u. last_of (values_by h x u)) us) ≡ map (λ u. last_value o (values_by h x u)) (cond b (u ∷ filter (has_written h x) us) (filter (has_written h x) us))
      at true e rest = ap (λ (v : Option ℤ). cons_option v (filter_map (λ u. last_of (values_by h x u)) us)) (last_some o (values_by h x u) (values_some x u (accepted_in h) e)) ∙ ap (λ vs. last_value o (values_by h x u) ∷ vs) rest
      at false e rest = ap (λ vs. cons_option (last_of vs) (filter_map (λ u. last_of (values_by h x u)) us)) (values_none x u (accepted_in h) e) ∙ rest

-- the value after each further writer is the one that the writer left
after_each : (w : ℕ → List ℤ) (o : ℤ) (ws : List ℕ) (a : ℕ) → AllByRecursion (λ u. w u ≡ [] → ⊥) ws → map (λ j. last_value o (flat_map w (take (suc j) ws))) (range_with_len 0 (length ws)) ≡ map (λ u. last_value o (w u)) ws
after_each w o [] a all = refl
after_each w o (u ∷ ws) a all =
    ap (λ v. v ∷ map (λ j. last_value o (flat_map w (take (suc j) (u ∷ ws)))) (range_with_len 1 (length ws))) (ap (last_value o) (append-nil (w u)))
    ∙ ap (λ vs. last_value o (w u) ∷ vs) (shifted (λ j. last_value o (flat_map w (take (suc j) (u ∷ ws)))) 0 (length ws)
    ∙ mapped (range_with_len 0 (length ws))
    ∙ after_each w (last_value o (w u)) ws a all.1
    ∙ fresh ws all.1)
  where
    shifted : {Y : Type 0} (f : ℕ → Y) (a n : ℕ) → map f (range_with_len (a + 1) n) ≡ map (λ j. f (j + 1)) (range_with_len a n)
    shifted f a zero = refl
    shifted f a (suc n) = ap (λ ys. f (a + 1) ∷ ys) (shifted f (a + 1) n)

    mapped : (js : List ℕ) → map (λ j. last_value o (flat_map w (take (suc (j + 1)) (u ∷ ws)))) js ≡ map (λ j. last_value (last_value o (w u)) (flat_map w (take (suc j) ws))) js
    mapped [] = refl
    mapped (j ∷ js) =
        let e : j + 1 ≡ suc j = omega arith in
        ap (λ v. v ∷ map (λ j. last_value o (flat_map w (take (suc (j + 1)) (u ∷ ws)))) js) (ap (λ k. last_value o (flat_map w (take (suc k) (u ∷ ws)))) e ∙ last_value-append o (w u) (flat_map w (take (suc j) ws)))
        ∙ ap (λ vs. last_value (last_value o (w u)) (flat_map w (take (suc j) ws)) ∷ vs) (mapped js)

    fresh : (vs : List ℕ) → AllByRecursion (λ u. w u ≡ [] → ⊥) vs → map (λ t. last_value (last_value o (w u)) (w t)) vs ≡ map (λ t. last_value o (w t)) vs
    fresh [] b = refl
    fresh (t ∷ vs) b = ap (λ v. v ∷ map (λ t. last_value (last_value o (w u)) (w t)) vs) (last_value-some (w t) (last_value o (w u)) o b.0) ∙ ap (λ ys. last_value o (w t) ∷ ys) (fresh vs b.1)

-- a property of the elements of a list holds at its indices
given_places : {Y : Type 0} (f : ℕ → Option Y) (us rest : List ℕ) (a : ℕ) → ((k : ℕ) → slice_get us (a + k) ≡ slice_get rest k) → filter_map (λ i. f (slice_index_or us i 0)) (range_with_len a (length rest)) ≡ filter_map f rest
given_places f us [] a g = refl
given_places f us (u ∷ rest) a g =
    let e : a + 0 ≡ a = omega arith in
    let here : slice_index_or us a 0 ≡ u = get_or_from_slice_get us a u 0 (ap (slice_get us) (sym e) ∙ g 0) in
    ap (λ v. cons_option (f v) (filter_map (λ i. f (slice_index_or us i 0)) (range_with_len (a + 1) (length rest)))) here
    ∙ ap (cons_option (f u)) (given_places f us rest (a + 1) (λ k. let d : (a + 1) + k ≡ a + suc k = omega arith in ap (slice_get us) d ∙ g (suc k)))

tested_places : (f S : ℕ → Bool) → ((u : ℕ) → f u ≡ S u) → (us rest : List ℕ) (a : ℕ) → ((k : ℕ) → slice_get us (a + k) ≡ slice_get rest k) → filter (λ i. f (slice_index_or us i 0)) (range_with_len a (length rest)) ≡ filter (passes_at us S) (range_with_len a (length rest))
tested_places f S same us [] a g = refl
tested_places f S same us (u ∷ rest) a g =
    let e : a + 0 ≡ a = omega arith in
    let at : slice_get us a ≡ Some u = ap (slice_get us) (sym e) ∙ g 0 in
    let here : slice_index_or us a 0 ≡ u = get_or_from_slice_get us a u 0 at in
    let passes : f (slice_index_or us a 0) ≡ passes_at us S a = ap f here ∙ same u ∙ sym (ap (λ (o : Option ℕ). elim o [ Some t ↦ S t | None ↦ false ]) at) in
    ap (λ b. cond b (a ∷ filter (λ i. f (slice_index_or us i 0)) (range_with_len (a + 1) (length rest))) (filter (λ i. f (slice_index_or us i 0)) (range_with_len (a + 1) (length rest)))) passes
    ∙ ap (λ xs. cond (passes_at us S a) (a ∷ xs) xs) (tested_places f S same us rest (a + 1) (λ k. let d : (a + 1) + k ≡ a + suc k = omega arith in ap (slice_get us) d ∙ g (suc k)))

from_start : (us : List ℕ) (k : ℕ) → slice_get us (0 + k) ≡ slice_get us k
from_start us k = ap (slice_get us) (let e : 0 + k ≡ k = omega arith in e)

module _ (h : Schedule) (us : List ℕ) (x : ℕ) where
  pub chain_writers : (chain_from (last_among h us x) (length us)).writers ≡ places us (has_written h x)
  chain_writers = tested_places (λ u. is_some (last_of (values_by h x u))) (has_written h x) (wrote_some h x) us us 0 (from_start us)

  pub chain_values : (chain_from (last_among h us x) (length us)).values ≡ map (λ j. state h (take (suc j) (filter (has_written h x) us)) x) (range_with_len 0 (length (filter (has_written h x) us)))
  chain_values =
      given_places (λ u. last_of (values_by h x u)) us us 0 (from_start us)
      ∙ values_of_writers h x (value_at h.opening x) us
      ∙ sym (after_each (values_by h x) (value_at h.opening x) (filter (has_written h x) us) 0 (writers_leave h x us))

-- a chain with no writer has no value
pub written_writers : (c : Chain) → writers_in (some_chain c) ≡ c.writers
written_writers c = at c.writers refl
  where
    at : (ws : List ℕ) → c.writers ≡ ws → writers_in (if_written ws c) ≡ ws
    at [] e = refl
    at (w ∷ ws) e = e

written_values : (c : Chain) → length c.values ≡ length c.writers → version_values (some_chain c) ≡ c.values
written_values c same = at c.writers c.values same
  where
    at : (ws : List ℕ) (vs : List ℤ) → length vs ≡ length ws → version_values (if_written ws (record { writers = c.writers; values = vs })) ≡ vs
    at [] [] e = refl
    at [] (v ∷ vs) e = absurd (omega (arith, e))
    at (w ∷ ws) vs e = refl

sum_of_reads : (D : ℕ → ℤ → ℤ → ℕ) (x : ℕ) (v : ℤ) (os : List Operation) → distance_sum D x (values_of (map item_read_of os) x) v ≡ sum_by (λ (o : Operation). cond (eqb o.item x) (D x o.value v) 0) os
sum_of_reads D x v [] = refl
sum_of_reads D x v (o ∷ os) = at (eqb o.item x) refl (sum_of_reads D x v os)
  where
    at : (b : Bool) → eqb o.item x ≡ b → distance_sum D x (values_of (map item_read_of os) x) v ≡ sum_by (λ (o : Operation). cond (eqb o.item x) (D x o.value v) 0) os
        → distance_sum D x (map (λ (r : ItemRead). r.value) (cond b (item_read_of o ∷ filter (λ (r : ItemRead). eqb r.item x) (map item_read_of os)) (filter (λ (r : ItemRead). eqb r.item x) (map item_read_of os)))) v ≡ sum_by (λ (o : Operation). cond (eqb o.item x) (D x o.value v) 0) (o ∷ os)
    at true e rest =
        let here : cond (eqb o.item x) (D x o.value v) 0 ≡ D x o.value v = ap (λ b. cond b (D x o.value v) 0) e in
        omega (arith, sum_by-cons (λ a. D x a v) o.value (values_of (map item_read_of os) x), sum_by-cons (λ (o : Operation). cond (eqb o.item x) (D x o.value v) 0) o os, here, rest)
    at false e rest =
        let here : cond (eqb o.item x) (D x o.value v) 0 ≡ 0 = ap (λ b. cond b (D x o.value v) 0) e in
        omega (arith, sum_by-cons (λ (o : Operation). cond (eqb o.item x) (D x o.value v) 0) o os, here, rest)

pub read_alike : (os : List Operation) (x : ℕ) → list_any (λ (r : ItemRead). eqb r.item x) (map item_read_of os) ≡ list_any (λ (o : Operation). eqb o.item x) os
read_alike [] x = refl
read_alike (o ∷ os) x = ap (λ b. eqb o.item x || b) (read_alike os x)

same_list : {X Y : Type 0} (f g : X → Y) (xs : List X) → ((a : X) → f a ≡ g a) → map f xs ≡ map g xs
same_list f g [] e = refl
same_list f g (a ∷ xs) e = ap (λ y. y ∷ map f xs) (e a) ∙ ap (λ ys. g a ∷ ys) (same_list f g xs e)

mapped_twice : {X Y Z : Type 0} (f : Y → Z) (g : X → Y) (xs : List X) → map f (map g xs) ≡ map (λ a. f (g a)) xs
mapped_twice f g [] = refl
mapped_twice f g (a ∷ xs) = ap (λ ys. f (g a) ∷ ys) (mapped_twice f g xs)

-- one more: the versions from the opening value on
versions_from : {Y : Type 0} (f : ℕ → Y) (n : ℕ) → f 0 ∷ map (λ j. f (suc j)) (range_with_len 0 n) ≡ map f (range_with_len 0 (suc n))
versions_from f n = ap (λ ys. f 0 ∷ ys) (moved 0 n)
  where
    moved : (a n : ℕ) → map (λ j. f (suc j)) (range_with_len a n) ≡ map f (range_with_len (a + 1) n)
    moved a zero = refl
    moved a (suc n) = let e : suc a ≡ a + 1 = omega arith in ap (λ v. f v ∷ map (λ j. f (suc j)) (range_with_len (a + 1) n)) e ∙ ap (λ ys. f (a + 1) ∷ ys) (moved (a + 1) n)

-- the values in an order are those that the first writers leave
pub versions_are : (h : Schedule) (us : List ℕ) (o : ConflictOrder) (x : ℕ) → chain_at o x ≡ chain_among h us x
    → version_values (chain_at o x) ≡ map (λ j. state h (take (suc j) (filter (has_written h x) us)) x) (range_with_len 0 (length (filter (has_written h x) us)))
versions_are h us o x is =
    let c : Chain = chain_from (last_among h us x) (length us) in
    let equal : length c.values ≡ length c.writers =
    ap length (chain_values h us x) ∙ length-map-range_with_len (λ j. state h (take (suc j) (filter (has_written h x) us)) x) 0 (length (filter (has_written h x) us)) ∙ sym (ap length (chain_writers h us x) ∙ length-places us (has_written h x)) in
    ap version_values is ∙ written_values c equal ∙ chain_values h us x

-- the chain that is gathered of an item is that of the problem that represents the query, if all its writers are listed
pub gathered_is_chain : (d : DistanceFunction) (h : Schedule) (q : ℕ) (us : List ℕ) (o : ConflictOrder) (x : ℕ) → chain_at o x ≡ chain_among h us x → filter (has_written h x) us ≡ writers_of h q x
    → chain_of_item (value_distance d h) h.opening o (map item_read_of (reads_by h q)) x ≡ chain_for d h q us x
gathered_is_chain d h q us o x is all =
    let c : Chain = chain_from (last_among h us x) (length us) in
    let writers : writers_in (chain_at o x) ≡ places us (has_written h x) = ap writers_in is ∙ written_writers c ∙ chain_writers h us x in
    let values : version_values (chain_at o x) ≡ map (λ j. state h (take (suc j) (writers_of h q x)) x) (range_with_len 0 (length (writers_of h q x))) =
    versions_are h us o x is ∙ ap (λ ws. map (λ j. state h (take (suc j) ws) x) (range_with_len 0 (length ws))) all in
    let D : ℤ → ℕ = distance_sum (value_distance d h) x (values_of (map item_read_of (reads_by h q)) x) in
    let costs : map D (value_at h.opening x ∷ version_values (chain_at o x)) ≡ map (version_cost d h q x) (range_with_len 0 (suc (length (writers_of h q x)))) =
    ap (λ vs. map D (value_at h.opening x ∷ vs)) values
    ∙ ap (map D) (versions_from (λ j. state h (take j (writers_of h q x)) x) (length (writers_of h q x)))
    ∙ mapped_twice D (λ j. state h (take j (writers_of h q x)) x) (range_with_len 0 (suc (length (writers_of h q x))))
    ∙ same_list (λ j. D (state h (take j (writers_of h q x)) x)) (version_cost d h q x) (range_with_len 0 (suc (length (writers_of h q x)))) (λ j. sum_of_reads (value_distance d h) x (state h (take j (writers_of h q x)) x) (reads_by h q)) in
    let with_writers : List ℕ → problems.Chain = λ ws. record { item = x; writers = ws; costs = map D (value_at h.opening x ∷ version_values (chain_at o x)) } in
    let with_costs : List ℕ → problems.Chain = λ cs. record { item = x; writers = places us (has_written h x); costs = cs } in
    ap with_writers writers ∙ ap with_costs costs
