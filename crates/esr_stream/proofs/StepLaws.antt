-- The effect of an update on the states of items is a step of the amounts.
use Rattle.std.proofs.Common.{All, ◌≡◌, ℕ, zero, suc, ℤ, ◌+◌, ◌<◌, ◌≤◌, Bool, true, false, cond, ◌&&◌, ◌||◌, eqb, List, [], ◌∷◌, length, filter, map, sum_by, refl, sym, ap, ◌∙◌, subst, inl, inr, arith, ◌⊎◌, nat_lt, eq-eqb}
use Rattle.std.specs.List.{range_with_len, list_any, AllByRecursion}
use Rattle.std.proofs.lemmas.Bool.{cases_eq, and_parts, or_cases, ltb-true, true≢false}
use Rattle.std.proofs.lemmas.List.{length-map}
use Rattle.std.proofs.lemmas.List.Sums.{sum_by-cons}
use Rattle.esr_items.specs.Values.{IsValue}
use Rattle.std.proofs.lemmas.List.Elements.{All-from_recursion, recursion_from_All}
use Rattle.esr_history.proofs.WithinRanges.{legal_within_ranges}
use Rattle.esr_order.proofs.Lists.{of_map}
use Rattle.esr_history.specs.Events.{last_value}
use Rattle.esr_history.specs.Machine.{DistanceFunction, Schedule, IsLegal}
use Rattle.esr_history.specs.Operations.{Operation, operations}
use Rattle.esr_history.specs.Serial.{values_by}
use Rattle.esr_history.specs.Queries.{updates_committed_before}
use Rattle.esr_history.proofs.Versions.{wrote_by}
use Rattle.esr_history.proofs.TraceAgreement.{values_trace}
use Rattle.esr_order.specs.declared.accesses.Access.{Access}
use Rattle.esr_order.specs.Scans.{access_of, accesses_in}
use Rattle.esr_order.specs.Chains.{nth}
use Rattle.esr_bound.specs.Amounts.{Amount, total, total_amounts, total_loans, mark_at, Wrote, accessed, left_by_all, AreCovered, HasReason, IsStep}
use Rattle.esr_history.proofs.LastWriter.{empty_or_not}
use Rattle.esr_history.proofs.Membership.{In, In-any, In-of_filter, any-from_In, each_in, each_at}
use Rattle.esr_stream.specs.Passes.{ItemState, state_at, nth_access, is_access, is_write, written_in, has_slack_at, is_owed_at, has_write_reason, HasReadReason, carried_at, unowed_at, as_covered, IsPrefixMarked, AreStates, AreOpening, IsReadOf, IsWrittenBy, IsUpdateApplied}

map_if : {X : Type 0} (f : X → ℤ) (b : Bool) (x : X) (xs : List X) → map f (cond b (x ∷ xs) xs) ≡ cond b (f x ∷ map f xs) (map f xs)
map_if f true x xs = refl
map_if f false x xs = refl

-- one more operation
both_more : (t w i : Bool) (v : ℤ) (L R : List ℤ) → L ≡ R → cond t (cond (w && i) (v ∷ L) L) L ≡ cond ((w && i) && t) (v ∷ R) R
both_more true true true v L R e = ap (λ l. v ∷ l) e
both_more true true false v L R e = e
both_more true false i v L R e = e
both_more false true true v L R e = e
both_more false true false v L R e = e
both_more false false i v L R e = e

access_more : (x : ℕ) (t : Bool) (o : Operation) (F : List Operation) → written_in x (map access_of (cond t (o ∷ F) F))
    ≡ cond t (cond (o.writes && eqb o.item x) (o.value ∷ written_in x (map access_of F)) (written_in x (map access_of F))) (written_in x (map access_of F))
access_more x true o F = map_if (λ (a : Access). a.value) (o.writes && eqb o.item x) (access_of o) (filter (is_write x) (map access_of F))
access_more x false o F = refl

-- the values that an update wrote to an item, by its accesses and by the history
pub written_is : (h : Schedule) (x u : ℕ) → written_in x (accesses_in h.entries u) ≡ values_by h x u
written_is h x u = go (operations h) ∙ sym (values_trace h x u)
  where
    go : (os : List Operation) → written_in x (map access_of (filter (λ (o : Operation). eqb o.txn u) os)) ≡ map (λ (o : Operation). o.value) (filter (wrote_by x u) os)
    go [] = refl
    go (o ∷ os) =
        access_more x (eqb o.txn u) o (filter (λ (o : Operation). eqb o.txn u) os)
        ∙ both_more (eqb o.txn u) o.writes (eqb o.item x) o.value (written_in x (map access_of (filter (λ (o : Operation). eqb o.txn u) os))) (map (λ (o : Operation). o.value) (filter (wrote_by x u) os)) (go os)
        ∙ sym (map_if (λ (o : Operation). o.value) (wrote_by x u o) o (filter (wrote_by x u) os))

-- a sum over the items is the sum over the list
pub total_states : (f : ItemState → ℕ) (states : List ItemState) → total (length states) (λ x. f (state_at states x)) ≡ sum_by f states
total_states f states = from states 0 (λ x. let e : 0 + x ≡ x = omega arith in ap (state_at states) e)
  where
    from : (rest : List ItemState) (a : ℕ) → ((x : ℕ) → state_at states (a + x) ≡ state_at rest x) → sum_by (λ x. f (state_at states x)) (range_with_len a (length rest)) ≡ sum_by f rest
    from [] a same = refl
    from (i ∷ rest) a same =
        let z : a + 0 ≡ a = omega arith in
        let here : f (state_at states a) ≡ f i = ap f (sym (ap (state_at states) z) ∙ same 0) in
        let more : sum_by (λ x. f (state_at states x)) (range_with_len (a + 1) (length rest)) ≡ sum_by f rest = from rest (a + 1) (λ x. let e : (a + 1) + x ≡ a + suc x = omega arith in ap (state_at states) e ∙ same (suc x)) in
        omega (arith, sum_by-cons (λ x. f (state_at states x)) a (range_with_len (a + 1) (length rest)), sum_by-cons f i rest, here, more)

-- an access that writes an item writes a value
written_some : (x : ℕ) (row : List Access) (a : Access) → In a row → is_write x a ≡ true → written_in x row ≡ [] → ⊥
written_some x [] a i w e = absurd i
written_some x (b ∷ row) a (inl s) w e =
    let m : is_write x b ≡ true = ap (is_write x) s ∙ w in
    let f : written_in x (b ∷ row) ≡ b.value ∷ written_in x row = map_if (λ (a : Access). a.value) (is_write x b) b (filter (is_write x) row) ∙ ap (λ t. cond t (b.value ∷ written_in x row) (written_in x row)) m in
    let g : b.value ∷ written_in x row ≡ [] = sym f ∙ e in cc
written_some x (b ∷ row) a (inr i) w e = at (is_write x b) refl (written_some x row a i w)
  where
    at : (t : Bool) → is_write x b ≡ t → (written_in x row ≡ [] → ⊥) → ⊥
    at true m rest =
        let f : written_in x (b ∷ row) ≡ b.value ∷ written_in x row = map_if (λ (a : Access). a.value) (is_write x b) b (filter (is_write x) row) ∙ ap (λ t. cond t (b.value ∷ written_in x row) (written_in x row)) m in
        let g : b.value ∷ written_in x row ≡ [] = sym f ∙ e in cc
    at false m rest =
        let f : written_in x (b ∷ row) ≡ written_in x row = map_if (λ (a : Access). a.value) (is_write x b) b (filter (is_write x) row) ∙ ap (λ t. cond t (b.value ∷ written_in x row) (written_in x row)) m in
        rest (sym f ∙ e)

-- whether an update accessed an item, by its accesses and by the history
pub accessed_is : (h : Schedule) (x u : ℕ) → list_any (is_access x) (accesses_in h.entries u) ≡ accessed h x u
accessed_is h x u = go (operations h)
  where
    more : (t i : Bool) (o : Operation) (F : List Operation) (rest : Bool) → eqb o.item x ≡ i → list_any (is_access x) (map access_of F) ≡ rest → list_any (is_access x) (map access_of (cond t (o ∷ F) F)) ≡ ((t && i) || rest)
    more true i o F rest e r = ap (λ b. b || list_any (is_access x) (map access_of F)) e ∙ ap (λ b. i || b) r
    more false i o F rest e r = r

    go : (os : List Operation) → list_any (is_access x) (map access_of (filter (λ (o : Operation). eqb o.txn u) os)) ≡ list_any (λ (o : Operation). eqb o.txn u && eqb o.item x) os
    go [] = refl
    go (o ∷ os) = more (eqb o.txn u) (eqb o.item x) o (filter (λ (o : Operation). eqb o.txn u) os) (list_any (λ (o : Operation). eqb o.txn u && eqb o.item x) os) refl (go os)

abbrev carry : ItemState → Amount
carry s = record { amount = s.amount; loan = s.loan; owed = s.owed }

module _ (h : Schedule) (q : ℕ) (C : ℕ → ℤ → ℕ) (k : ℕ) (marked : Bool) (proposed : ℕ → ℕ) (marks marks' : List Bool) (row : List Access) (old new : List ItemState) (before after : ℕ)
    (so_far : AreStates C h q k marks old) (is_row : row ≡ accesses_in h.entries (nth (updates_committed_before h q) k))
    (next : (x : ℕ) → left_by_all h q (k + 1) x ≡ last_value (left_by_all h q k x) (values_by h x (nth (updates_committed_before h q) k)))
    (put : IsUpdateApplied C marked proposed row old new before after)
    (earlier : (i : ℕ) → i < k → mark_at marks' i ≡ mark_at marks i) where
  abbrev here : ℕ
  here = nth (updates_committed_before h q) k

  wrote : (x : ℕ) → written_in x row ≡ values_by h x here
  wrote x = ap (written_in x) is_row ∙ written_is h x here

  touches : (x : ℕ) → list_any (is_access x) row ≡ accessed h x here
  touches x = ap (list_any (is_access x)) is_row ∙ accessed_is h x here

  inside : (x : ℕ) → x < length h.opening → x < length old
  inside x l = omega (arith, l, so_far.len)

  -- the costs after the update
  costs_after : (x : ℕ) → x < length h.opening → (state_at new x).cost ≡ C x (left_by_all h q (k + 1) x)
  costs_after x l =
      put.cost x (left_by_all h q k x) (inside x l) (so_far.cost x l)
      ∙ ap (λ vs. C x (last_value (left_by_all h q k x) vs)) (wrote x)
      ∙ ap (C x) (sym (next x))

  -- the state of an item that the update did not write, and of one that it wrote
  of_reads : (x : ℕ) → x < length h.opening → values_by h x here ≡ [] → IsReadOf marked (state_at old x) (state_at new x)
  of_reads x l none = put.read x (inside x l) (wrote x ∙ none)

  of_writes : (x : ℕ) → x < length h.opening → Wrote h x here → IsWrittenBy marked (state_at new x)
  of_writes x l some = put.written x (inside x l) (λ e. some (sym (wrote x) ∙ e))

  -- each writer so far is marked, or a later one is
  covered_after : (marked_is : mark_at marks' k ≡ marked) (x : ℕ) → x < length h.opening → (state_at new x).covered ≡ true → AreCovered h q (k + 1) marks' x
  covered_after marked_is x l w i low wrote_i =
      elim (empty_or_not (values_by h x here)) [
        | inl none ↦
            elim (cases_eq i k) [
              | inl e ↦ absurd (subst (λ j. Wrote h x (nth (updates_committed_before h q) j)) e wrote_i none)
              | inr ne ↦
                  let less : i < k = omega arith in
                  let was : (state_at old x).covered ≡ true = sym (of_reads x l none).covered ∙ w in
                  elim (so_far.covered x l was i less wrote_i) [
                    | inl m ↦ inl (earlier i less ∙ m)
                    | inr j ↦ inr (j.0, j.1, omega (arith, j.2), j.3, earlier j.0 j.2 ∙ j.4)
                  ]
            ]
        | inr some ↦
            let m : mark_at marks' k ≡ true = marked_is ∙ sym (of_writes x l some).covered ∙ w in
            elim (cases_eq i k) [
              | inl e ↦ inl (ap (mark_at marks') e ∙ m)
              | inr ne ↦ inr (k, omega arith, omega arith, some, m)
            ]
      ]

  pub states_after : mark_at marks' k ≡ marked → AreStates C h q (k + 1) marks' new
  states_after marked_is = record {
    len = put.len ∙ so_far.len;
    cost = costs_after;
    under = λ x l. put.under x (inside x l) (so_far.under x l);
    covered = covered_after marked_is;
    owed = λ x l o. elim (empty_or_not (values_by h x here)) [
      | inl none ↦
          let r = of_reads x l none in
          let lent = r.lent in
          elim (r.owed o) [
            | inl was ↦ let p = so_far.owed x l was in omega (arith, p, lent)
            | inr now ↦ let p = now.1 in omega (arith, p)
          ]
      | inr some ↦ (of_writes x l some).owed o
    ];
  }

  -- ---- the reasons for a mark

  module _ (items : AllByRecursion (λ (a : Access). a.item.0 < length h.opening) row) where
    write_reason : has_write_reason old row ≡ true → HasReason (length h.opening) C h q k (carried_at old) (carried_at new) marks
    write_reason any =
        let r = In-any (λ (a : Access). a.writes && (has_slack_at old a.item.0 || is_owed_at old a.item.0)) row any in
        let a : Access = r.0 in
        let both = and_parts a.writes (has_slack_at old a.item.0 || is_owed_at old a.item.0) r.2 in
        let known : a.item.0 < length h.opening = each_at (λ (b : Access). b.item.0 < length h.opening) row a items r.1 in
        let writes : is_write a.item.0 a ≡ true = ap (λ b. b && eqb a.item.0 a.item.0) both.0 ∙ eq-eqb a.item.0 a.item.0 refl in
        let some : Wrote h a.item.0 here = λ none. written_some a.item.0 row a r.1 writes (wrote a.item.0 ∙ none) in
        elim (or_cases (has_slack_at old a.item.0) (is_owed_at old a.item.0) both.1) [
          | inl slack ↦
              let s = and_parts (state_at old a.item.0).covered (nat_lt (state_at old a.item.0).amount (state_at old a.item.0).cost) slack in
              let low : (state_at old a.item.0).amount < (state_at old a.item.0).cost = ltb-true (state_at old a.item.0).amount (state_at old a.item.0).cost s.1 in
              let cost = so_far.cost a.item.0 known in
              record { item = a.item.0; known = known; writers = so_far.covered a.item.0 known s.0; why = inl (some, inl (omega (arith, low, cost))) }
          | inr owed ↦
              let s = and_parts (state_at old a.item.0).covered (state_at old a.item.0).owed owed in
              record { item = a.item.0; known = known; writers = so_far.covered a.item.0 known s.0; why = inl (some, inr s.1) }
        ]

    read_reason : HasReadReason old row proposed → HasReason (length h.opening) C h q k (carried_at old) (carried_at new) marks
    read_reason r =
        let a : Access = nth_access row r.place in
        let a_in : In a row = nth_in row r.place r.within in
        let known : a.item.0 < length h.opening = each_at (λ (b : Access). b.item.0 < length h.opening) row a items a_in in
        let s = and_parts (state_at old a.item.0).covered (nat_lt (state_at old a.item.0).amount (state_at old a.item.0).cost) r.slack in
        let low : (state_at old a.item.0).amount < (state_at old a.item.0).cost = ltb-true (state_at old a.item.0).amount (state_at old a.item.0).cost s.1 in
        let cost = so_far.cost a.item.0 known in
        let touched : accessed h a.item.0 here ≡ true = sym (touches a.item.0) ∙ any-from_In (is_access a.item.0) row a a_in (eq-eqb a.item.0 a.item.0 refl) in
        record {
          item = a.item.0;
          known = known;
          writers = so_far.covered a.item.0 known s.0;
          why = elim (empty_or_not (values_by h a.item.0 here)) [
            | inl none ↦ inr (none, touched, put.raises r.place r.within r.reads (inside a.item.0 known) r.raises (wrote a.item.0 ∙ none) low)
            | inr some ↦ inl (some, inl (omega (arith, low, cost)))
          ];
        }
      where
        nth_in : (row : List Access) (j : ℕ) → j < length row → In (nth_access row j) row
        nth_in [] j l = absurd (omega arith)
        nth_in (b ∷ row) zero l = inl refl
        nth_in (b ∷ row) (suc j) l = inr (nth_in row j (omega arith))

    pub reason_is : (has_write_reason old row ≡ true) ⊎ HasReadReason old row proposed → HasReason (length h.opening) C h q k (carried_at old) (carried_at new) marks
    reason_is (inl any) = write_reason any
    reason_is (inr r) = read_reason r

  module _ (seed : Bool) (keeps : before ≤ after) (marked_is : mark_at marks' k ≡ marked) (why : mark_at marks' k ≡ true → (seed ≡ true) ⊎ HasReason (length h.opening) C h q k (carried_at old) (carried_at new) marks) where
    of_list : (f : ItemState → ℕ) (states : List ItemState) → length states ≡ length h.opening → total (length h.opening) (λ x. f (state_at states x)) ≡ sum_by f states
    of_list f states e = ap (λ m. total m (λ x. f (state_at states x))) (sym e) ∙ total_states f states

    sums : total_amounts (length h.opening) (carried_at old) + total_loans (length h.opening) (carried_at new) ≤ total_amounts (length h.opening) (carried_at new) + total_loans (length h.opening) (carried_at old)
    sums =
        let a = of_list (λ (i : ItemState). i.amount) old so_far.len in
        let b = of_list (λ (i : ItemState). i.amount) new (put.len ∙ so_far.len) in
        let c = of_list (λ (i : ItemState). i.loan) old so_far.len in
        let d = of_list (λ (i : ItemState). i.loan) new (put.len ∙ so_far.len) in
        let s = put.sum in
        omega (arith, a, b, c, d, s, keeps)

    pub step_made : IsStep (length h.opening) C h q k (carried_at old) (carried_at new) seed marks marks'
    step_made = record {
      others = λ x l e. ap carry (put.others x (touches x ∙ e));
      under = λ x l e. let u = put.under x (inside x l) (so_far.under x l) in let c = costs_after x l in omega (arith, u, c);
      raised = λ x l none. (of_reads x l none).raised;
      lent = λ x l none. (of_reads x l none).lent;
      owed_by_writer = λ x l some o. (of_writes x l some).owed o;
      owed_by_reader = λ x l none o. elim ((of_reads x l none).owed o) [ inl was ↦ inl was | inr now ↦ inr (marked_is ∙ now.0, now.1) ];
      sum = sums;
      earlier = earlier;
      mark = why;
    }

-- ---- without marks

module _ (h : Schedule) (q : ℕ) (C : ℕ → ℤ → ℕ) (k : ℕ) (marked : Bool) (proposed : ℕ → ℕ) (ms seen marks : List Bool) (row : List Access) (old new : List ItemState) (before after : ℕ)
    (so_far : AreStates C h q k ms old) (is_row : row ≡ accesses_in h.entries (nth (updates_committed_before h q) k))
    (next : (x : ℕ) → left_by_all h q (k + 1) x ≡ last_value (left_by_all h q k x) (values_by h x (nth (updates_committed_before h q) k)))
    (put : IsUpdateApplied C marked proposed row old new before after) (earlier : (i : ℕ) → i < k → mark_at seen i ≡ mark_at ms i) (marked_is : mark_at seen k ≡ marked)
    (keeps : before ≤ after) (none : mark_at marks k ≡ false) where
  abbrev step : IsStep (length h.opening) C h q k (carried_at old) (carried_at new) true ms seen
  step = step_made h q C k marked proposed ms seen row old new before after so_far is_row next put earlier true keeps marked_is (λ _. inl refl)

  -- the update's step does not depend on its mark
  pub unowed_step : IsStep (length h.opening) C h q k (unowed_at old) (unowed_at new) false marks marks
  unowed_step = record {
    others = λ x l e. ap (λ (a : Amount). record { amount = a.amount; loan = a.loan; owed = false }) (step.others x l e);
    under = step.under;
    raised = step.raised;
    lent = step.lent;
    owed_by_writer = λ x l some o. absurd (true≢false (sym o));
    owed_by_reader = λ x l none o. absurd (true≢false (sym o));
    sum = step.sum;
    earlier = λ i l. refl;
    mark = λ m. absurd (true≢false (sym m ∙ none));
  }

unowed_covered : (states : List ItemState) (x : ℕ) → unowed_at (map as_covered states) x ≡ unowed_at states x
unowed_covered [] x = refl
unowed_covered (s ∷ states) zero = refl
unowed_covered (s ∷ states) (suc x) = unowed_covered states x

-- a copy in which all writers are covered has the same amounts and loans
pub same_covered : (states copy : List ItemState) → copy ≡ map as_covered states → (x : ℕ) → unowed_at copy x ≡ unowed_at states x
same_covered states copy e x = ap (λ (l : List ItemState). unowed_at l x) e ∙ unowed_covered states x

-- ---- the opening values

pub opening_states_are : (C : ℕ → ℤ → ℕ) (h : Schedule) (q : ℕ) (marks : List Bool) (states : List ItemState) → AreOpening C h.opening (length h.opening) states → AreStates C h q 0 marks states
opening_states_are C h q marks states is = record {
  len = is.len;
  cost = λ x l. is.cost x l;
  under = is.under;
  covered = λ x l w i low. absurd (omega arith);
  owed = λ x l o. absurd (true≢false (sym o ∙ is.owed x l));
}

-- the values of accesses are in range
pub accesses_valued : (d : DistanceFunction) (h : Schedule) → All IsValue h.opening → IsLegal d h → (t : ℕ) → All (λ (a : Access). IsValue a.value) (accesses_in h.entries t)
accesses_valued d h opened legal t = All-from_recursion (λ (a : Access). IsValue a.value) (accesses_in h.entries t) (each_in (λ (a : Access). IsValue a.value) (accesses_in h.entries t) (λ a i.
    let o = of_map access_of (filter (λ (o : Operation). eqb o.txn t) (operations h)) a i in
    let v : IsValue o.0.value = each_at (λ (o : Operation). IsValue o.value) (operations h) o.0 (recursion_from_All (λ (o : Operation). IsValue o.value) (operations h) (legal_within_ranges d h opened legal).values) (In-of_filter (λ (o : Operation). eqb o.txn t) (operations h) o.0 o.1).0 in
    subst IsValue (ap (λ (a : Access). a.value) o.2) v))

-- ---- the states after updates that are all marked

covered_at : (states : List ItemState) (x : ℕ) → x < length states → state_at (map as_covered states) x ≡ as_covered (state_at states x)
covered_at [] x l = absurd (omega arith)
covered_at (s ∷ states) zero l = refl
covered_at (s ∷ states) (suc x) l = covered_at states x (omega arith)

pub states_covered : (h : Schedule) (q : ℕ) (C : ℕ → ℤ → ℕ) (k : ℕ) (marks ms : List Bool) (states copy : List ItemState) → copy ≡ map as_covered states → IsPrefixMarked k ms → AreStates C h q k marks states → AreStates C h q k ms copy
states_covered h q C k marks ms states copy e firsts are =
    let at : (x : ℕ) → x < length h.opening → state_at copy x ≡ as_covered (state_at states x) = λ x l. ap (λ (m : List ItemState). state_at m x) e ∙ covered_at states x (omega (arith, l, are.len)) in
    record {
      len = ap (λ (m : List ItemState). length m) e ∙ length-map states as_covered ∙ are.len;
      cost = λ x l. ap (λ (i : ItemState). i.cost) (at x l) ∙ are.cost x l;
      under = λ x l.
          let a = ap (λ (i : ItemState). i.amount) (at x l) in
          let c = ap (λ (i : ItemState). i.cost) (at x l) in
          let u = are.under x l in
          omega (arith, a, c, u);
      covered = λ x l w i m t. inl (firsts i m);
      owed = λ x l o.
          let b = ap (λ (i : ItemState). i.loan) (at x l) in
          let p : 0 < (state_at states x).loan = ltb-true 0 (state_at states x).loan (sym (ap (λ (i : ItemState). i.owed) (at x l)) ∙ o) in
          omega (arith, b, p);
    }
