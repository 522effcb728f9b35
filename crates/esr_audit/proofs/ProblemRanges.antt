-- The problem gathered from an order of a query of a legal history is within the ranges of problems.
use Rattle.std.proofs.Common.{◌≡◌, ℕ, zero, suc, ℤ, ◌+◌, ◌*◌, ◌^◌, ◌<◌, ◌≤◌, Bool, true, false, cond, not, ◌&&◌, eqb, List, [], ◌∷◌, ◌++◌, length, filter, map, flat_map, take, sum_by, refl, sym, ap, ◌∙◌, subst, inl, inr, arith, Option, Some, None, All, Contains, IsTrue, nat_lt, nat_le, is_some, unwrap_or, slice_get, option_map}
use Rattle.std.specs.List.{list_all, list_any, range_with_len, AllByRecursion, before_first}
use Rattle.std.proofs.lemmas.Bool.{and_from, true≢false, lt-ltb, le-leb, eq-eqb}
use Rattle.std.proofs.lemmas.List.{length-map}
use Rattle.std.proofs.lemmas.List.Sums.{sum_by-cons, sum_by-le, sum_by-le-sum_by}
use Rattle.std.proofs.lemmas.List.Elements.{All-contains, All-from_recursion, recursion_from_All}
use Rattle.esr_items.specs.Values.{value_at, IsValue}
use Rattle.esr_base.specs.declared.numbers.TxnId.{TxnId}
use Rattle.esr_history.specs.Events.{BeginRecord, begin_records, is_query, is_update, last_value}
use Rattle.esr_history.specs.Machine.{DistanceFunction, Schedule, IsLegal, accepted_in, value_distance}
use Rattle.esr_history.specs.Operations.{Operation, operations, commit_order}
use Rattle.esr_history.specs.Ranges.{IsWithinRanges}
use Rattle.esr_history.specs.Serial.{is_before, state, values_by}
use Rattle.esr_history.specs.Queries.{updates_committed_before, reads_by}
use Rattle.esr_history.proofs.Membership.{In, each_in, each_at, In-of_filter, Contains-In, any-from_In}
use Rattle.esr_history.proofs.Versions.{wrote_by}
use Rattle.esr_history.proofs.TraceAgreement.{values_trace}
use Rattle.esr_order.specs.Chains.{nth}
use Rattle.esr_order.specs.Orders.{ConflictOrder, IsConflictOrderOn}
use Rattle.esr_order.specs.Relevant.{AreRelevant, has_written}
use Rattle.esr_order.proofs.RelevantLaws.{relevant_updates}
use Rattle.esr_order.proofs.QueryReads.{reads_counted, reads_in_range}
use Rattle.esr_base.specs.declared.limits.TheConstants.{MAX_ITEMS, MAX_TRANSACTIONS}
use Rattle.esr_cert.specs.declared.range.TheConstants.{MAX_COST}
use Rattle.esr_cert.specs.Problem.{Chain, Problem, update_count, greatest, chain_is_in_range, is_in_range, is_well_formed}
use Rattle.esr_cert.proofs.Sound.{all_from}
use Rattle.esr_audit.specs.Problems.{passes_at, places, items_read, writers_of, version_cost, chain_for}
use Rattle.esr_audit.proofs.Costs.{by_item, sum_mapped}
use Rattle.esr_audit.proofs.ProblemOfOrder.{problem_of_order}
use Rattle.esr_audit.proofs.Shape as shape

last_in_range : (v : ℤ) (vs : List ℤ) → IsValue v → AllByRecursion IsValue vs → IsValue (last_value v vs)
last_in_range v [] first all = first
last_in_range v (w ∷ vs) first all = last_in_range w vs all.0 all.1

opening_in_range : (vs : List ℤ) (x : ℕ) → AllByRecursion IsValue vs → IsValue (value_at vs x)
opening_in_range [] x all = omega arith
opening_in_range (v ∷ vs) zero all = all.0
opening_in_range (v ∷ vs) (suc x) all = opening_in_range vs x all.1

greatest_within : (m : ℕ) (ns : List ℕ) → AllByRecursion (λ n. n ≤ m) ns → greatest ns ≤ m
greatest_within m [] all = omega arith
greatest_within m (n ∷ ns) all = let rest = greatest_within m ns all.1 in let first : n ≤ m = all.0 in omega arith

pub each_mapped : {X Y : Type 0} (P : Y → Type 0) (f : X → Y) (xs : List X) → ((x : X) → P (f x)) → AllByRecursion P (map f xs)
each_mapped P f [] all = tt
each_mapped P f (x ∷ xs) all = (all x, each_mapped P f xs all)

module _ (h : Schedule) (range : IsWithinRanges h) (opening_values_in_range : All IsValue h.opening) where
  -- updates leave values in range
  pub state_in_range : (us : List ℕ) (x : ℕ) → IsValue (state h us x)
  state_in_range us x = last_in_range (value_at h.opening x) (flat_map (values_by h x) us) (opening_in_range h.opening x (recursion_from_All IsValue h.opening opening_values_in_range)) (all us)
    where
      both : (vs ws : List ℤ) → AllByRecursion IsValue vs → AllByRecursion IsValue ws → AllByRecursion IsValue (vs ++ ws)
      both [] ws a b = b
      both (v ∷ vs) ws a b = (a.0, both vs ws a.1 b)

      given : (os : List Operation) → ((o : Operation) → In o os → IsValue o.value) → AllByRecursion IsValue (map (λ (o : Operation). o.value) os)
      given [] all = tt
      given (o ∷ os) all = (all o (inl refl), given os (λ p i. all p (inr i)))

      all : (us : List ℕ) → AllByRecursion IsValue (flat_map (values_by h x) us)
      all [] = tt
      all (u ∷ us) =
          both (values_by h x u) (flat_map (values_by h x) us)
          (subst (AllByRecursion IsValue) (sym (values_trace h x u)) (given (filter (wrote_by x u) (operations h)) (λ o i. each_at (λ (o : Operation). IsValue o.value) (operations h) o (recursion_from_All (λ (o : Operation). IsValue o.value) (operations h) range.values) (In-of_filter (wrote_by x u) (operations h) o i).0)))
          (all us)

  -- the number of an update
  number_in_range : (u : ℕ) → is_update (accepted_in h) u ≡ true → (0 < u) × (u ≤ 65535)
  number_in_range zero is = absurd (true≢false (sym is))
  number_in_range (suc k) is = let l = below (begin_records (accepted_in h)) k (some (slice_get (begin_records (accepted_in h)) k) is) in let r = range.begins in (omega arith, omega arith)
    where
      some : (b : Option BeginRecord) → unwrap_or (option_map (λ c. not c.query) b) false ≡ true → is_some b ≡ true
      some None e = e
      some (Some b) e = refl

      below : (bs : List BeginRecord) (k : ℕ) → is_some (slice_get bs k) ≡ true → k < length bs
      below [] k e = absurd (true≢false (sym e))
      below (b ∷ bs) zero e = omega arith
      below (b ∷ bs) (suc k) e = let l = below bs k e in omega arith

module _ (d : DistanceFunction) (h : Schedule) (q : ℕ) (range : IsWithinRanges h) (opening_values_in_range : All IsValue h.opening)
    (bounded : (w : List ℕ) (x : ℕ) (a b : ℤ) → IsValue a → IsValue b → d w x a b ≤ 2 * 10 ^ 15) where
  -- one read costs at most this
  abbrev B : ℕ
  B = 2 * 10 ^ 15

  -- as many reads of an item, each at its greatest cost
  abbrev at_most : ℕ → ℕ
  at_most x = sum_by (λ (o : Operation). cond (eqb o.item x) B 0) (reads_by h q)

  version_within : (x j : ℕ) → version_cost d h q x j ≤ at_most x
  version_within x j = go (reads_by h q) (reads_in_range h range q)
    where
      v : ℤ
      v = state h (take j (writers_of h q x)) x

      one : (o : Operation) → IsValue o.value → cond (eqb o.item x) (value_distance d h x o.value v) 0 ≤ cond (eqb o.item x) B 0
      one o is = pick (eqb o.item x)
        where
          pick : (b : Bool) → cond b (value_distance d h x o.value v) 0 ≤ cond b B 0
          pick true = bounded h.weights x o.value v is (state_in_range h range opening_values_in_range (take j (writers_of h q x)) x)
          pick false = omega arith

      go : (os : List Operation) → AllByRecursion (λ (o : Operation). IsValue o.value × (o.item < length h.opening)) os
          → sum_by (λ (o : Operation). cond (eqb o.item x) (value_distance d h x o.value v) 0) os ≤ sum_by (λ (o : Operation). cond (eqb o.item x) B 0) os
      go [] all = omega arith
      go (o ∷ os) all = omega (arith, one o (all.0).0, go os all.1, sum_by-cons (λ (o : Operation). cond (eqb o.item x) (value_distance d h x o.value v) 0) o os, sum_by-cons (λ (o : Operation). cond (eqb o.item x) B 0) o os)

  inside : AllByRecursion (λ (o : Operation). (list_any (λ (p : Operation). eqb p.item o.item) (reads_by h q) ≡ true) × (o.item < length h.opening)) (reads_by h q)
  inside = each_in (λ (o : Operation). (list_any (λ (p : Operation). eqb p.item o.item) (reads_by h q) ≡ true) × (o.item < length h.opening)) (reads_by h q) (λ o i.
      (any-from_In (λ (p : Operation). eqb p.item o.item) (reads_by h q) o i (eq-eqb o.item o.item refl), (each_at (λ (o : Operation). IsValue o.value × (o.item < length h.opening)) (reads_by h q) o (reads_in_range h range q) i).1))

  greatest_cost : (x : ℕ) → greatest (map (version_cost d h q x) (range_with_len 0 (suc (length (writers_of h q x))))) ≤ at_most x
  greatest_cost x = greatest_within (at_most x) (map (version_cost d h q x) (range_with_len 0 (suc (length (writers_of h q x))))) (each_mapped (λ n. n ≤ at_most x) (version_cost d h q x) (range_with_len 0 (suc (length (writers_of h q x)))) (version_within x))

  sum_of_greatest : (us : List ℕ) → sum_by (λ (c : Chain). greatest c.costs) (map (chain_for d h q us) (items_read h q)) ≤ length (reads_by h q) * B
  sum_of_greatest us =
      let mapped : sum_by (λ (c : Chain). greatest c.costs) (map (chain_for d h q us) (items_read h q)) ≡ sum_by (λ x. greatest (map (version_cost d h q x) (range_with_len 0 (suc (length (writers_of h q x)))))) (items_read h q) = sum_mapped (λ (c : Chain). greatest c.costs) (chain_for d h q us) (items_read h q) in
      let less : sum_by (λ x. greatest (map (version_cost d h q x) (range_with_len 0 (suc (length (writers_of h q x)))))) (items_read h q) ≤ sum_by at_most (items_read h q) = sum_by-le-sum_by (λ x. greatest (map (version_cost d h q x) (range_with_len 0 (suc (length (writers_of h q x)))))) at_most (items_read h q) greatest_cost in
      let each : sum_by at_most (items_read h q) ≡ sum_by (λ (o : Operation). B) (reads_by h q) = by_item (λ x o. B) (λ x. list_any (λ (o : Operation). eqb o.item x) (reads_by h q)) (length h.opening) (reads_by h q) inside in
      let all : sum_by (λ (o : Operation). B) (reads_by h q) ≤ length (reads_by h q) * B = sum_by-le (λ (o : Operation). B) B (reads_by h q) (All-from_recursion (λ (o : Operation). B ≤ B) (reads_by h q) (each_in (λ (o : Operation). B ≤ B) (reads_by h q) (λ o i. omega arith))) in
      omega arith

  module _ (legal : IsLegal d h) (us : List ℕ) (relevant : AreRelevant h q us) (o : ConflictOrder) (is_order : IsConflictOrderOn h q us o) (count_within_max : length h.opening ≤ 4096) (query : IsTrue (is_query (accepted_in h) q)) where
    abbrev p : Problem
    p = problem_of_order d h q o

    sized : update_count p ≡ length o.commits
    sized = length-map o.commits (λ (t : TxnId). t.0)

    numbers : list_all (λ t. nat_lt 0 t && nat_le t MAX_TRANSACTIONS) p.updates ≡ true
    numbers = all_from (λ t. nat_lt 0 t && nat_le t MAX_TRANSACTIONS) p.updates (λ t c.
        let i : In t (updates_committed_before h q) = Contains-In (updates_committed_before h q) t (relevant_updates d h q legal us relevant t (subst (λ vs. Contains vs t) is_order.commits c)) in
        let r = number_in_range h range opening_values_in_range t (In-of_filter (is_update (accepted_in h)) (before_first (λ t. eqb t q) (commit_order (accepted_in h))) t i).1 in
        and_from (nat_lt 0 t) (nat_le t MAX_TRANSACTIONS) (lt-ltb 0 t r.0) (le-leb t MAX_TRANSACTIONS r.1))

    before : list_all (λ (e : ℕ × ℕ). nat_lt e.0 (update_count p) && nat_lt e.1 (update_count p)) o.before ≡ true
    before = all_from (λ (e : ℕ × ℕ). nat_lt e.0 (update_count p) && nat_lt e.1 (update_count p)) o.before (λ e c.
        let r = All-contains (λ (p : ℕ × ℕ). (p.0 < p.1) × (p.1 < length o.commits) × IsTrue (is_before h (nth us p.0) (nth us p.1))) o.before e is_order.pairs c in
        and_from (nat_lt e.0 (update_count p)) (nat_lt e.1 (update_count p)) (lt-ltb e.0 (update_count p) (omega (arith, r.0, r.1, sized))) (lt-ltb e.1 (update_count p) (omega (arith, r.1, sized))))

    must_within : list_all (λ u. nat_lt u (update_count p)) o.must ≡ true
    must_within = all_from (λ u. nat_lt u (update_count p)) o.must (λ u c. lt-ltb u (update_count p) (omega (arith, All-contains (λ i. i < length o.commits) o.must u is_order.within c, sized)))

    chain_within : (x : ℕ) → In x (items_read h q) → chain_is_in_range (update_count p) (chain_for d h q us x) ≡ true
    chain_within x i =
        let l = below (λ x. list_any (λ (o : Operation). eqb o.item x) (reads_by h q)) 0 (length h.opening) x i in
        and_from (nat_lt x MAX_ITEMS) (list_all (λ w. nat_lt w (update_count p)) (places us (has_written h x)))
        (lt-ltb x MAX_ITEMS (omega arith))
        (all_from (λ w. nat_lt w (update_count p)) (places us (has_written h x)) (λ w c.
        let k = below (passes_at us (has_written h x)) 0 (length us) w (Contains-In (places us (has_written h x)) w c) in
        lt-ltb w (update_count p) (omega (arith, k, ap length is_order.commits))))
      where
        in_row : (a n x : ℕ) → In x (range_with_len a n) → x < a + n
        in_row a zero x i = absurd i
        in_row a (suc n) x (inl e) = omega arith
        in_row a (suc n) x (inr i) = let l = in_row (a + 1) n x i in omega arith

        below : (P : ℕ → Bool) (a n x : ℕ) → In x (filter P (range_with_len a n)) → x < a + n
        below P a n x i = in_row a n x (In-of_filter P (range_with_len a n) x i).0

    chains_within : (xs : List ℕ) → ((x : ℕ) → In x xs → In x (items_read h q)) → list_all (chain_is_in_range (update_count p)) (map (chain_for d h q us) xs) ≡ true
    chains_within [] all = refl
    chains_within (x ∷ xs) all = and_from (chain_is_in_range (update_count p) (chain_for d h q us x)) (list_all (chain_is_in_range (update_count p)) (map (chain_for d h q us) xs)) (chain_within x (all x (inl refl))) (chains_within xs (λ y i. all y (inr i)))

    costs : nat_le (sum_by (λ (c : Chain). greatest c.costs) p.chains) MAX_COST ≡ true
    costs =
        let same : sum_by (λ (c : Chain). greatest c.costs) p.chains ≡ sum_by (λ (c : Chain). greatest c.costs) (map (chain_for d h q us) (items_read h q)) = ap (sum_by (λ (c : Chain). greatest c.costs)) (shape.chains_of d h q legal us relevant o is_order) in
        let sum = sum_of_greatest us in
        let many : length (reads_by h q) ≤ 1000 = subst (λ n. n ≤ 1000) (sym (reads_counted h q)) (range.reads q query) in
        le-leb (sum_by (λ (c : Chain). greatest c.costs) p.chains) MAX_COST (omega arith)

    pub within : is_in_range p ≡ true
    within =
        and_from _ _ (and_from _ _ (and_from _ _ (and_from _ _ numbers (ap (list_all (chain_is_in_range (update_count p))) (shape.chains_of d h q legal us relevant o is_order) ∙ chains_within (items_read h q) (λ x i. i))) before) must_within) costs

    pub gathered_problem_is_well_formed : is_well_formed p ≡ true
    gathered_problem_is_well_formed = and_from _ _ (shape.shaped d h q legal us relevant o is_order) within
