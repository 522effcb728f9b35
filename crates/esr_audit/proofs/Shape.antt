-- The problem gathered from an order of a query breaks no rule of shape.
use Rattle.std.proofs.Common.{◌≡◌, ◌≢◌, ℕ, zero, suc, ◌+◌, ◌<◌, Bool, true, false, cond, not, ◌&&◌, ◌||◌, eqb, List, [], ◌∷◌, length, filter, map, refl, sym, ap, ◌∙◌, subst, inl, inr, arith, Some, Contains, nat_lt, IsTrue}
use Rattle.std.specs.List.{list_all, slice_index_or, range_with_len, AllByRecursion}
use Rattle.std.proofs.lemmas.Bool.{and_from, or_left, or_right, eq-eqb, ne_eqb, lt-ltb}
use Rattle.std.proofs.lemmas.List.{length-map}
use Rattle.std.proofs.lemmas.List.FromFn.{length-range_with_len}
use Rattle.std.proofs.lemmas.List.Elements.{All-contains}
use Rattle.esr_base.specs.declared.numbers.TxnId.{TxnId}
use Rattle.esr_history.specs.Machine.{DistanceFunction, Schedule, IsLegal}
use Rattle.esr_history.specs.Serial.{is_before}
use Rattle.esr_history.proofs.Membership.{In, Pairs, Pairs-from_all, any-from_In, Contains-In}
use Rattle.esr_order.specs.ConflictPairs.{IsLexLess}
use Rattle.esr_order.specs.Chains as orders
use Rattle.esr_order.specs.Chains.{nth, chain_from, if_written, last_among}
use Rattle.esr_order.specs.Orders.{ConflictOrder, IsConflictOrderOn}
use Rattle.esr_order.specs.Relevant.{AreRelevant, has_written}
use Rattle.esr_cert.specs.Problem.{Chain, in_set, is_strictly_ascending, pair_lt, are_pairs_ascending, has_pair, are_linked, is_distinct, chain_has_shape, has_valid_shape}
use Rattle.esr_cert.proofs.Sound.{all_from}
use Rattle.esr_audit.specs.Problems.{places, items_read, writers_of, passes_at, version_cost, chain_for}
use Rattle.esr_audit.proofs.Places.{length-places}
use Rattle.esr_audit.proofs.Versions.{chain_writers}
use Rattle.esr_audit.proofs.ProblemOfOrder.{problem_of_order, is_problem, must_ascends, all_writers}

distinct_from : (us : List ℕ) → Pairs (λ u v. u ≢ v) us → is_distinct us ≡ true
distinct_from [] p = refl
distinct_from (u ∷ us) p = and_from (not (in_set us u)) (is_distinct us) (ap not (absent us p.0)) (distinct_from us p.1)
  where
    absent : (vs : List ℕ) → AllByRecursion (λ v. u ≢ v) vs → in_set vs u ≡ false
    absent [] a = refl
    absent (v ∷ vs) a = ap (λ b. b || in_set vs u) (ne_eqb v u (λ (e : v ≡ u). a.0 (sym e))) ∙ absent vs a.1

pairs_ascend : (ps : List (ℕ × ℕ)) → Pairs IsLexLess ps → are_pairs_ascending ps ≡ true
pairs_ascend (p ∷ r ∷ rest) a = and_from (pair_lt p r) (are_pairs_ascending (r ∷ rest)) (below (a.0).0) (pairs_ascend (r ∷ rest) a.1)
  where
    below : IsLexLess p r → pair_lt p r ≡ true
    below (inl l) = or_left (nat_lt p.0 r.0) ((eqb p.0 r.0) && nat_lt p.1 r.1) (lt-ltb p.0 r.0 l)
    below (inr (e, l)) = or_right (nat_lt p.0 r.0) ((eqb p.0 r.0) && nat_lt p.1 r.1) (and_from (eqb p.0 r.0) (nat_lt p.1 r.1) (eq-eqb p.0 r.0 e) (lt-ltb p.1 r.1 l))
pairs_ascend _ a = refl

-- those of some numbers in a row that pass a test ascend
range_ascends_from : (P : ℕ → Bool) (x a n : ℕ) → x < a → is_strictly_ascending (x ∷ filter P (range_with_len a n)) ≡ true
range_ascends_from P x a zero l = refl
range_ascends_from P x a (suc n) l = pick (P a) (range_ascends_from P a (a + 1) n (omega arith)) (range_ascends_from P x (a + 1) n (omega arith))
  where
    pick : (b : Bool) → is_strictly_ascending (a ∷ filter P (range_with_len (a + 1) n)) ≡ true → is_strictly_ascending (x ∷ filter P (range_with_len (a + 1) n)) ≡ true
        → is_strictly_ascending (x ∷ cond b (a ∷ filter P (range_with_len (a + 1) n)) (filter P (range_with_len (a + 1) n))) ≡ true
    pick true with_it without = and_from (nat_lt x a) (is_strictly_ascending (a ∷ filter P (range_with_len (a + 1) n))) (lt-ltb x a l) with_it
    pick false with_it without = without

pub range_ascends : (P : ℕ → Bool) (a n : ℕ) → is_strictly_ascending (filter P (range_with_len a n)) ≡ true
range_ascends P a zero = refl
range_ascends P a (suc n) = pick (P a) (range_ascends_from P a (a + 1) n (omega arith)) (range_ascends P (a + 1) n)
  where
    pick : (b : Bool) → is_strictly_ascending (a ∷ filter P (range_with_len (a + 1) n)) ≡ true → is_strictly_ascending (filter P (range_with_len (a + 1) n)) ≡ true
        → is_strictly_ascending (cond b (a ∷ filter P (range_with_len (a + 1) n)) (filter P (range_with_len (a + 1) n))) ≡ true
    pick true with_it without = with_it
    pick false with_it without = without

linked_from : (before : List (ℕ × ℕ)) (ws : List ℕ) → ((i : ℕ) → i + 1 < length ws → Contains before (slice_index_or ws i 0, slice_index_or ws (i + 1) 0)) → are_linked before ws ≡ true
linked_from before (w ∷ x ∷ rest) relevant =
    and_from (has_pair before w x) (are_linked before (x ∷ rest))
    (any-from_In (λ (e : ℕ × ℕ). eqb e.0 w && eqb e.1 x) before (w, x) (Contains-In before (w, x) (relevant 0 (omega arith))) (and_from (eqb w w) (eqb x x) (eq-eqb w w refl) (eq-eqb x x refl)))
    (linked_from before (x ∷ rest) (λ i l. let e : suc i + 1 ≡ suc (i + 1) = omega arith in subst (λ k. Contains before (slice_index_or (x ∷ rest) i 0, slice_index_or (w ∷ x ∷ rest) k 0)) e (relevant (suc i) (omega arith))))
linked_from before _ relevant = refl

module _ (d : DistanceFunction) (h : Schedule) (q : ℕ) (legal : IsLegal d h) (us : List ℕ) (relevant : AreRelevant h q us) (o : ConflictOrder) (good : IsConflictOrderOn h q us o) where
  -- the writers of an item, each a pair with the next
  linked : (x i : ℕ) → i + 1 < length (places us (has_written h x)) → Contains o.before (slice_index_or (places us (has_written h x)) i 0, slice_index_or (places us (has_written h x)) (i + 1) 0)
  linked x i l =
      let c : orders.Chain = chain_from (last_among h us x) (length us) in
      let same : c.writers ≡ places us (has_written h x) = chain_writers h us x in
      subst (λ ws. Contains o.before (slice_index_or ws i 0, slice_index_or ws (i + 1) 0)) same (good.neighbours x i c (good.chains x ∙ some c.writers (omega (arith, ap length same))) (omega (arith, ap length same)))
    where
      some : (ws : List ℕ) → 0 < length ws → if_written ws (chain_from (last_among h us x) (length us)) ≡ Some (chain_from (last_among h us x) (length us))
      some [] l = absurd (omega arith)
      some (w ∷ ws) l = refl

  one_more : (x : ℕ) → In x (items_read h q) → length (map (version_cost d h q x) (range_with_len 0 (suc (length (writers_of h q x))))) ≡ suc (length (places us (has_written h x)))
  one_more x i =
      length-map (range_with_len 0 (suc (length (writers_of h q x)))) (version_cost d h q x)
      ∙ length-range_with_len 0 (suc (length (writers_of h q x)))
      ∙ ap suc (sym (length-places us (has_written h x) ∙ ap length (all_writers d h q legal us relevant o good x i)))

  chain_shape : (x : ℕ) → In x (items_read h q) → chain_has_shape o.before (chain_for d h q us x) ≡ true
  chain_shape x i =
      let ws : List ℕ = places us (has_written h x) in
      and_from _ (are_linked o.before ws)
      (and_from _ (is_strictly_ascending ws) (eq-eqb _ _ (one_more x i)) (range_ascends (passes_at us (has_written h x)) 0 (length us)))
      (linked_from o.before ws (linked x))

  pub chains_of : (problem_of_order d h q o).chains ≡ map (chain_for d h q us) (items_read h q)
  chains_of = (is_problem d h q legal us relevant o good).chains ∙ ap (λ vs. map (chain_for d h q vs) (items_read h q)) good.commits

  all_shaped : (xs : List ℕ) → ((x : ℕ) → In x xs → In x (items_read h q)) → list_all (chain_has_shape o.before) (map (chain_for d h q us) xs) ≡ true
  all_shaped [] inside = refl
  all_shaped (x ∷ xs) inside = and_from _ (list_all (chain_has_shape o.before) (map (chain_for d h q us) xs)) (chain_shape x (inside x (inl refl))) (all_shaped xs (λ y i. inside y (inr i)))

  items_of : (xs : List ℕ) → map (λ (c : Chain). c.item) (map (chain_for d h q us) xs) ≡ xs
  items_of [] = refl
  items_of (x ∷ xs) = ap (λ ys. x ∷ ys) (items_of xs)

  distinct : is_distinct (map (λ (t : TxnId). t.0) o.commits) ≡ true
  distinct = ap is_distinct good.commits ∙ distinct_from us (Pairs-from_all (λ u v. u ≢ v) us good.serial.once)

  forward : list_all (λ (e : ℕ × ℕ). nat_lt e.0 e.1) o.before ≡ true
  forward = all_from (λ (e : ℕ × ℕ). nat_lt e.0 e.1) o.before (λ e c.
      let p = All-contains (λ (p : ℕ × ℕ). (p.0 < p.1) × (p.1 < length o.commits) × IsTrue (is_before h (nth us p.0) (nth us p.1))) o.before e good.pairs c in
      lt-ltb e.0 e.1 p.0)

  items : is_strictly_ascending (map (λ (c : Chain). c.item) (problem_of_order d h q o).chains) ≡ true
  items =
      ap (λ (cs : List Chain). is_strictly_ascending (map (λ (c : Chain). c.item) cs)) chains_of
      ∙ ap is_strictly_ascending (items_of (items_read h q))
      ∙ range_ascends _ 0 (length h.opening)

  chains : list_all (chain_has_shape o.before) (problem_of_order d h q o).chains ≡ true
  chains = ap (list_all (chain_has_shape o.before)) chains_of ∙ all_shaped (items_read h q) (λ x i. i)

  pub shaped : has_valid_shape (problem_of_order d h q o) ≡ true
  shaped =
      and_from _ _ (and_from _ _ (and_from _ _ (and_from _ _ (and_from _ _ distinct (pairs_ascend o.before (Pairs-from_all IsLexLess o.before good.ascending))) forward) items) chains) (must_ascends d h q legal us relevant o good)
