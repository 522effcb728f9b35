-- The problem gathered from an order of a query represents the query.
use Rattle.std.proofs.Common.{◌≡◌, ◌≢◌, ℕ, zero, suc, ◌+◌, ◌<◌, ◌≤◌, ◌↔◌, Bool, true, ◌&&◌, ◌||◌, eqb, List, [], ◌∷◌, length, filter, map, refl, sym, ap, ◌∙◌, subst, inl, inr, arith, Some, Contains, All, AllPairs, IsTrue, nat_lt}
use Rattle.std.specs.List.{list_any, slice_get, range_with_len, AllByRecursion}
use Rattle.std.proofs.lemmas.Bool.{cases_eq, eqb-true, eq-eqb, ne_eqb, and_from, lt-ltb}
use Rattle.std.proofs.lemmas.Option.{slice_get-get_or}
use Rattle.std.proofs.lemmas.List.{length-map}
use Rattle.std.proofs.lemmas.List.Elements.{All-contains, All-from_recursion, recursion_from_All}
use Rattle.esr_base.specs.declared.numbers.TxnId.{TxnId}
use Rattle.esr_history.specs.Machine.{DistanceFunction, Schedule, IsLegal, value_distance}
use Rattle.esr_history.specs.Operations.{Operation}
use Rattle.esr_history.specs.Serial.{is_before}
use Rattle.esr_history.specs.Queries.{updates_committed_before, must, reads_by}
use Rattle.esr_history.proofs.Membership.{In, In-any, In-of_filter, Pairs, each_in, each_at, In-Contains, Contains-In, Pairs-from_all}
use Rattle.esr_order.specs.Placements.{is_among, IsClosed}
use Rattle.esr_order.specs.Chains.{nth}
use Rattle.esr_order.specs.Orders.{ConflictOrder, IsClosedAt, IsConflictOrderOn}
use Rattle.esr_order.specs.Relevant.{AreRelevant, has_written}
use Rattle.esr_order.proofs.RelevantLaws.{relevant_closed, relevant_writers}
use Rattle.esr_cert.specs.Problem.{Problem, is_closed, in_set, is_strictly_ascending}
use Rattle.esr_cert.proofs.Sound as sound
use Rattle.esr_audit.specs.Problems.{passes_at, places, items_read, writers_of, chain_for, IsProblemOf}
use Rattle.esr_audit.specs.Reads.{chain_of_item, items_in, item_read_of, ItemRead}
use Rattle.esr_audit.proofs.Smallest.{passes_here, among_element}
use Rattle.esr_audit.proofs.Positions.{filter_agree, ascending_range}
use Rattle.esr_audit.proofs.Versions.{read_alike, gathered_is_chain}

-- the problem that is gathered from an order
abbrev pub problem_of_order : DistanceFunction → Schedule → ℕ → ConflictOrder → Problem
problem_of_order d h q o = record {
  updates = map (λ (t : TxnId). t.0) o.commits;
  before = o.before;
  chains = map (chain_of_item (value_distance d h) h.opening o (map item_read_of (reads_by h q))) (items_in (map item_read_of (reads_by h q)) (length h.opening));
  must = o.must;
}

-- each element of a list in which none occurs twice has one place
one_place : (us : List ℕ) → AllPairs (λ u v. u ≢ v) us → (i j u : ℕ) → slice_get us i ≡ Some u → slice_get us j ≡ Some u → i ≡ j
one_place us once i j u a b = go us (Pairs-from_all (λ u v. u ≢ v) us once) i j a b
  where
    later : (vs : List ℕ) (v : ℕ) → AllByRecursion (λ t. v ≢ t) vs → (k : ℕ) → slice_get vs k ≡ Some v → ⊥
    later [] v all k e = cc
    later (t ∷ vs) v all zero e = all.0 (let s : Some t ≡ Some v = e in cc)
    later (t ∷ vs) v all (suc k) e = later vs v all.1 k e

    go : (vs : List ℕ) → Pairs (λ u v. u ≢ v) vs → (i j : ℕ) → slice_get vs i ≡ Some u → slice_get vs j ≡ Some u → i ≡ j
    go [] p i j a b = absurd (cc)
    go (v ∷ vs) p zero zero a b = refl
    go (v ∷ vs) p zero (suc j) a b = let s : v ≡ u = cc in absurd (later vs v p.0 j (b ∙ ap Some (sym s)))
    go (v ∷ vs) p (suc i) zero a b = let s : v ≡ u = cc in absurd (later vs v p.0 i (a ∙ ap Some (sym s)))
    go (v ∷ vs) p (suc i) (suc j) a b = ap suc (go vs p.1 i j a b)

ascending_from_pairs : (xs : List ℕ) → Pairs (λ i j. i < j) xs → is_strictly_ascending xs ≡ true
ascending_from_pairs (x ∷ y ∷ rest) p = and_from (nat_lt x y) (is_strictly_ascending (y ∷ rest)) (lt-ltb x y (p.0).0) (ascending_from_pairs (y ∷ rest) p.1)
ascending_from_pairs _ p = refl

module _ (d : DistanceFunction) (h : Schedule) (q : ℕ) (legal : IsLegal d h) (us : List ℕ) (relevant : AreRelevant h q us) (o : ConflictOrder) (good : IsConflictOrderOn h q us o) where
  count : length o.commits ≡ length us
  count = sym (length-map o.commits (λ (t : TxnId). t.0)) ∙ ap length good.commits

  -- the update at a position
  there : (i : ℕ) → i < length us → slice_get us i ≡ Some (nth us i)
  there i l = slice_get-get_or us i 0 l

  place_passes : (S : ℕ → Bool) (i : ℕ) → i < length us → passes_at us S i ≡ (is_among us (nth us i) && S (nth us i))
  place_passes S i l =
      passes_here us S i (nth us i) (there i l)
      ∙ sym (ap (λ b. b && S (nth us i)) (among_element us i (nth us i) (there i l)))

  pub must_ascends : is_strictly_ascending o.must ≡ true
  must_ascends = ascending_from_pairs o.must (Pairs-from_all (λ i j. i < j) o.must good.rising)

  must_there : (set : List ℕ) → AllByRecursion (λ i. i < length us) set → (i : ℕ) → i < length us → is_among (map (nth us) set) (nth us i) ≡ in_set set i
  must_there [] all i l = refl
  must_there (j ∷ set) all i l =
      ap (λ b. b || is_among (map (nth us) set) (nth us i)) (elim (cases_eq j i) [
        | inl e ↦ eq-eqb (nth us j) (nth us i) (ap (nth us) e) ∙ sym (eq-eqb j i e)
        | inr ne ↦ ne_eqb (nth us j) (nth us i) (λ (e : nth us j ≡ nth us i). ne (one_place us good.serial.once j i (nth us i) (there j all.0 ∙ ap Some e) (there i l))) ∙ sym (ne_eqb j i ne)
      ])
      ∙ ap (λ b. eqb j i || b) (must_there set all.1 i l)

  must_inside : AllByRecursion (λ i. i < length us) o.must
  must_inside = subst (λ n. AllByRecursion (λ i. i < n) o.must) count (recursion_from_All (λ i. i < length o.commits) o.must good.within)

  from_zero : (n : ℕ) (xs : List ℕ) → AllByRecursion (λ i. i < n) xs → AllByRecursion (λ i. (0 ≤ i) × (i < 0 + n)) xs
  from_zero n [] a = tt
  from_zero n (x ∷ xs) a = ((omega arith, let l : x < n = a.0 in omega arith), from_zero n xs a.1)

  must_places : o.must ≡ places us (is_among (must h q))
  must_places =
      ascending_range o.must 0 (length us) must_ascends (from_zero (length us) o.must must_inside)
      ∙ filter_agree (in_set o.must) (passes_at us (is_among (must h q))) 0 (length us) (λ i low high.
      let l : i < length us = omega arith in
      sym (passes_here us (is_among (must h q)) i (nth us i) (there i l)
      ∙ ap (λ ms. is_among ms (nth us i)) (sym good.musts)
      ∙ must_there o.must must_inside i l))

  items_same : items_in (map item_read_of (reads_by h q)) (length h.opening) ≡ items_read h q
  items_same = filter_agree (λ x. list_any (λ (r : ItemRead). eqb r.item x) (map item_read_of (reads_by h q))) (λ x. list_any (λ (p : Operation). eqb p.item x) (reads_by h q)) 0 (length h.opening) (λ x low high. read_alike (reads_by h q) x)

  -- all writers of an item that was read are listed
  pub all_writers : (x : ℕ) → In x (items_read h q) → filter (has_written h x) us ≡ writers_of h q x
  all_writers x i =
      let r = In-any (λ (p : Operation). eqb p.item x) (reads_by h q) (In-of_filter (λ x. list_any (λ (p : Operation). eqb p.item x) (reads_by h q)) (range_with_len 0 (length h.opening)) x i).1 in
      subst (λ y. filter (has_written h y) us ≡ writers_of h q y) (eqb-true r.0.item x r.2) (relevant_writers d h q legal us relevant r.0 r.1)

  chains_same : (xs : List ℕ) → ((x : ℕ) → In x xs → In x (items_read h q)) → map (chain_of_item (value_distance d h) h.opening o (map item_read_of (reads_by h q))) xs ≡ map (chain_for d h q us) xs
  chains_same [] inside = refl
  chains_same (x ∷ xs) inside =
      ap (λ c. c ∷ map (chain_of_item (value_distance d h) h.opening o (map item_read_of (reads_by h q))) xs) (gathered_is_chain d h q us o x (good.chains x) (all_writers x (inside x (inl refl))))
      ∙ ap (λ cs. chain_for d h q us x ∷ cs) (chains_same xs (λ y i. inside y (inr i)))

  -- ---- closed sets

  pair_inside : (u v : ℕ) → Contains o.before (u, v) → (u < length us) × (v < length us)
  pair_inside u v c =
      let p = All-contains (λ (p : ℕ × ℕ). (p.0 < p.1) × (p.1 < length o.commits) × IsTrue (is_before h (nth us p.0) (nth us p.1))) o.before (u, v) good.pairs c in
      (omega (arith, p.0, p.1, count), omega (arith, p.1, count))

  must_is_inside : (u : ℕ) → Contains o.must u → u < length us
  must_is_inside u c = each_at (λ i. i < length us) o.must u must_inside (Contains-In o.must u c)

  closed_to : (S : ℕ → Bool) → is_closed (problem_of_order d h q o) (passes_at us S) ≡ true → IsClosedAt us o (λ u. is_among us u && S u)
  closed_to S c =
      let f : sound.IsClosed (problem_of_order d h q o) (passes_at us S) = sound.closed_facts (problem_of_order d h q o) (passes_at us S) c in
      record {
        downward = each_contained o.before (λ p. IsTrue (is_among us (nth us p.1) && S (nth us p.1)) → IsTrue (is_among us (nth us p.0) && S (nth us p.0)))
            (λ p i t. let l = pair_inside p.0 p.1 i in sym (place_passes S p.0 l.0) ∙ f.before p.0 p.1 i (place_passes S p.1 l.1 ∙ t));
        holds_must = each_contained o.must (λ i. IsTrue (is_among us (nth us i) && S (nth us i))) (λ i c. sym (place_passes S i (must_is_inside i c)) ∙ f.must i c);
      }
    where
      each_contained : {X : Type 0} (xs : List X) (P : X → Type 0) → ((x : X) → Contains xs x → P x) → All P xs
      each_contained xs P f = All-from_recursion P xs (each_in P xs (λ x i. f x (In-Contains xs x i)))

  closed_from : (S : ℕ → Bool) → IsClosedAt us o (λ u. is_among us u && S u) → is_closed (problem_of_order d h q o) (passes_at us S) ≡ true
  closed_from S c =
      sound.closed_from (problem_of_order d h q o) (passes_at us S) (record {
        before = λ u v i t.
            let l = pair_inside u v i in
            place_passes S u l.0 ∙ All-contains (λ (p : ℕ × ℕ). IsTrue (is_among us (nth us p.1) && S (nth us p.1)) → IsTrue (is_among us (nth us p.0) && S (nth us p.0))) o.before (u, v) c.downward i (sym (place_passes S v l.1) ∙ t);
        must = λ u i. place_passes S u (must_is_inside u i) ∙ All-contains (λ i. IsTrue (is_among us (nth us i) && S (nth us i))) o.must u c.holds_must i;
      })

  same_closed : (S : ℕ → Bool) → (is_closed (problem_of_order d h q o) (passes_at us S) ≡ true) ↔ IsClosed h q (λ u. is_among us u && S u)
  same_closed S =
      let on = good.closed (λ u. is_among us u && S u) in
      let all = relevant_closed d h q legal us relevant S in
      ((λ c. all.0 (on.0 (closed_to S c))), (λ c. closed_from S (on.1 (all.1 c))))

  pub is_problem : IsProblemOf d h q (problem_of_order d h q o)
  is_problem = record {
    updates = good.commits ∙ relevant.in_order ∙ ap (λ vs. filter (is_among vs) (updates_committed_before h q)) (sym good.commits);
    writers = All-from_recursion (λ x. filter (has_written h x) (map (λ (t : TxnId). t.0) o.commits) ≡ writers_of h q x) (items_read h q) (each_in (λ x. filter (has_written h x) (map (λ (t : TxnId). t.0) o.commits) ≡ writers_of h q x) (items_read h q) (λ x i. ap (filter (has_written h x)) good.commits ∙ all_writers x i));
    must = must_places ∙ ap (λ vs. places vs (is_among (must h q))) (sym good.commits);
    chains = ap (map (chain_of_item (value_distance d h) h.opening o (map item_read_of (reads_by h q)))) items_same ∙ chains_same (items_read h q) (λ x i. i) ∙ ap (λ vs. map (chain_for d h q vs) (items_read h q)) (sym good.commits);
    closed = λ S. subst (λ (vs : List ℕ). (is_closed (problem_of_order d h q o) (passes_at vs S) ≡ true) ↔ IsClosed h q (λ u. is_among vs u && S u)) (sym good.commits) (same_closed S);
  }
