-- The relevant updates of a query and a conflict order of them exist: they are found by the steps of the search and of
-- the backward scan, as definitions.
use Rattle.std.proofs.Common.{◌≡◌, ◌⊎◌, ℕ, zero, suc, ◌+◌, ◌*◌, ◌<◌, ◌≤◌, Bool, true, false, ◌||◌, List, [], ◌∷◌, ◌++◌, length, get_or, drop, reverse, map, filter, cond, eqb, nat_lt}
use Rattle.std.proofs.Common.{refl, sym, ◌∙◌, ap, subst, arith, inl, inr, ⊎_elim}
use Rattle.std.specs.List.{list_any, range_with_len}
use Rattle.std.proofs.lemmas.Bool.{true≢false, cases_Bool, cases_lt, cond_both, or_from, ltb-true, ltb-false, eqb-true, eqb-false, false_from_ne_true}
use Rattle.esr_base.specs.declared.numbers.TxnId.{TxnId}
use Rattle.esr_history.specs.Machine.{DistanceFunction, Schedule, IsLegal}
use Rattle.esr_history.specs.Queries.{updates_committed_before, must}
use Rattle.esr_history.proofs.Membership.{In, In-Contains, Contains-In, Pairs, All-from_pairs, each_in, each_at}
use Rattle.esr_history.proofs.WithinRanges.{legal_items}
use Rattle.esr_order.specs.Batches.{batches, operation_at}
use Rattle.esr_order.specs.BackwardSearch.{marked, Seen, conflicts_with}
use Rattle.esr_order.specs.Chains.{chain_from, last_by_update, update_at}
use Rattle.esr_order.specs.Conflicts.{pairs_from}
use Rattle.esr_order.specs.Later.{SummarizeLater, batch_conflicts}
use Rattle.esr_order.specs.Orders.{ConflictOrder, IsConflictOrderOn}
use Rattle.esr_order.specs.Placements.{is_among}
use Rattle.esr_order.specs.Relevant.{AreRelevant}
use Rattle.esr_order.specs.Scans.{accesses_in}
use Rattle.esr_order.specs.UpdateOperations.{UpdateOperation}
use Rattle.esr_history.specs.Operations.{operations}
use Rattle.esr_order.proofs.Amid.{made}
use Rattle.esr_order.proofs.BackwardSearch.{did, did_by_operation, AreSeen, IsRelevantFrom, relevant_all, miss, hit, relevant_by, is_relevant_by}
use Rattle.esr_order.proofs.Gathering.{no_txn, rest, IsGathered, gathered_more, gathered_ascending, gathered_conflicting, gathered_next}
use Rattle.esr_order.proofs.Kept.{Pair, Kept, open_reads}
use Rattle.esr_order.proofs.RelevantFound.{IsRelevantRun, relevant_run, low_must}

-- ---- the relevant updates

none_any : (p : ℕ → Bool) (us : List ℕ) → ((u : ℕ) → p u ≡ false) → list_any p us ≡ false
none_any p [] none = refl
none_any p (u ∷ us) none = or_from (p u) (list_any p us) (none u) (none_any p us none)

-- the marks of a test that fails past the range
marks_of : (p : ℕ → Bool) (a n x : ℕ) → ((y : ℕ) → n ≤ y → p (a + y) ≡ false) → marked (map p (range_with_len a n)) x ≡ p (a + x)
marks_of p a zero x none = sym (none x (omega arith))
marks_of p a (suc n) zero none = let e : a ≡ a + 0 = omega arith in ap p e
marks_of p a (suc n) (suc x) none =
    let e : a + 1 + x ≡ a + suc x = omega arith in
    marks_of p (a + 1) n x (λ y l. let f : a + 1 + y ≡ a + suc y = omega arith in ap p f ∙ none (suc y) (omega arith)) ∙ ap p e

nothing_left : (us : List ℕ) (i : ℕ) → i ≡ length us → drop i us ≡ []
nothing_left [] zero e = refl
nothing_left [] (suc i) e = refl
nothing_left (u ∷ us) zero e = absurd (omega arith)
nothing_left (u ∷ us) (suc i) e = nothing_left us i (omega arith)

module _ (d : DistanceFunction) (h : Schedule) (q : ℕ) (legal : IsLegal d h) where
  -- no operation is on an item past those of the history
  did_past : (w : Bool) (x t : ℕ) → length h.opening ≤ x → did h w x t ≡ false
  did_past w x t past = false_from_ne_true (did h w x t) (λ is.
      let o = did_by_operation h w x t is in
      let below : o.0.item < length h.opening = legal_items d h legal o.0 o.1 in
      let here : o.0.item ≡ x = o.3 in
      let bad : ⊥ = omega arith in bad)

  -- the items that q and some updates read, and those that these updates wrote
  seen_by : List ℕ → Seen
  seen_by us = record {
    read = map (λ x. list_any (did h false x) us || did h false x q) (range_with_len 0 (length h.opening));
    written = map (λ x. list_any (did h true x) us) (range_with_len 0 (length h.opening));
  }

  are_seen : (us : List ℕ) → AreSeen h q us (seen_by us)
  unfolding seen_by
  are_seen us = record {
    read = λ x.
        let e : 0 + x ≡ x = omega arith in
        marks_of read 0 (length h.opening) x (λ y l.
        let past : length h.opening ≤ 0 + y = omega arith in
        or_from (list_any (did h false (0 + y)) us) (did h false (0 + y) q) (none_any (did h false (0 + y)) us (λ u. did_past false (0 + y) u past)) (did_past false (0 + y) q past))
        ∙ ap read e;
    written = λ x.
        let e : 0 + x ≡ x = omega arith in
        marks_of written 0 (length h.opening) x (λ y l.
        let past : length h.opening ≤ 0 + y = omega arith in
        none_any (did h true (0 + y)) us (λ u. did_past true (0 + y) u past))
        ∙ ap written e;
  }
    where
      read : ℕ → Bool
      read x = list_any (did h false x) us || did h false x q

      written : ℕ → Bool
      written x = list_any (did h true x) us

  -- whether an update is relevant is decided by its position and its accesses
  relevant_from : (k i : ℕ) → i + k ≡ length (updates_committed_before h q) → (us : List ℕ) × IsRelevantFrom h q i us
  relevant_from zero i e =
      let none : drop i (updates_committed_before h q) ≡ [] = nothing_left (updates_committed_before h q) i (omega arith) in (
        [],
        record {
          in_order = sym (ap (filter (is_among [])) none);
          relevant = λ u. ((λ j. absurd j), (λ r. subst (In u) none r.0));
        },
      )
  relevant_from (suc k) i e =
      let later : (us : List ℕ) × IsRelevantFrom h q (suc i) us = relevant_from k (suc i) (omega arith) in
      let inside : i < length (updates_committed_before h q) = omega arith in
      let s : Seen = seen_by later.0 in
      let seen : AreSeen h q later.0 s = are_seen later.0 in
      elim (cases_lt i (length (must h q))) [
        | inl low ↦ (update_at h q i ∷ later.0, hit d h q legal i inside later.0 later.1 (inr (inr (low_must d h q legal i low))))
        | inr high ↦ elim (cases_Bool (list_any (conflicts_with s) (accesses_in h.entries (update_at h q i)))) [
          | inl t ↦ (update_at h q i ∷ later.0, hit d h q legal i inside later.0 later.1 (relevant_by d h q legal i inside later.0 later.1 s seen t))
          | inr f ↦ (
            later.0,
            miss d h q legal i inside later.0 later.1 (λ is.
                ⊎_elim (λ low. let bad : ⊥ = omega (arith, low, high) in bad) (λ t. true≢false (sym t ∙ f)) (is_relevant_by d h q legal i inside later.0 later.1 s seen is)),
          )
        ]
      ]

  pub relevant_exist : (us : List ℕ) × AreRelevant h q us
  relevant_exist = let r = relevant_from (length (updates_committed_before h q)) 0 (omega arith) in (r.0, relevant_all h q r.0 r.1)

-- ---- numbers in ascending order, each once

put : ℕ → List ℕ → List ℕ
put x [] = x ∷ []
put x (y ∷ ys) = cond (nat_lt x y) (x ∷ y ∷ ys) (cond (eqb x y) (y ∷ ys) (y ∷ put x ys))

record IsPut (x : ℕ) (ys zs : List ℕ) : Type 0 where
  rises : Pairs (λ j k. j < k) zs
  has : (z : ℕ) → (x ≡ z) ⊎ In z ys → In z zs
  only : (z : ℕ) → In z zs → (x ≡ z) ⊎ In z ys
  short : length zs ≤ suc (length ys)

is_put : (x : ℕ) (ys : List ℕ) → Pairs (λ j k. j < k) ys → IsPut x ys (put x ys)
unfolding put
is_put x [] p = record { rises = (tt, tt); has = λ z c. c; only = λ z i. i; short = omega arith }
is_put x (y ∷ ys) p =
    cond_both (nat_lt x y) (x ∷ y ∷ ys) (cond (eqb x y) (y ∷ ys) (y ∷ put x ys)) (IsPut x (y ∷ ys))
    (λ t.
    let l : x < y = ltb-true x y t in
    record {
      rises = ((l, each_in (λ k. x < k) ys (λ k i. let m : y < k = each_at (λ k. y < k) ys k p.0 i in omega (arith, l, m))), p);
      has = λ z c. c;
      only = λ z i. i;
      short = omega arith;
    })
    (λ f. cond_both (eqb x y) (y ∷ ys) (y ∷ put x ys) (IsPut x (y ∷ ys))
    (λ e.
    let same : x ≡ y = eqb-true x y e in
    record { rises = p; has = λ z c. ⊎_elim (λ w. inl (sym same ∙ w)) (λ i. i) c; only = λ z i. inr i; short = omega arith })
    (λ ne.
    let later : IsPut x ys (put x ys) = is_put x ys p.1 in
    let le : y ≤ x = ltb-false x y f in
    let other : x ≡ y → ⊥ = eqb-false x y ne in
    let above : y < x = grind arith in
    record {
      rises = (each_in (λ k. y < k) (put x ys) (λ k i. ⊎_elim (λ w. subst (λ k. y < k) w above) (λ j. each_at (λ k. y < k) ys k p.0 j) (later.only k i)), later.rises);
      has = λ z c. ⊎_elim (λ w. inr (later.has z (inl w))) (λ i. ⊎_elim (λ w. inl w) (λ j. inr (later.has z (inr j))) i) c;
      only = λ z i. ⊎_elim (λ w. inr (inl w)) (λ j. ⊎_elim (λ w. inl w) (λ k. inr (inr k)) (later.only z j)) i;
      short = omega (arith, later.short);
    }))

ascending : List ℕ → List ℕ
ascending [] = []
ascending (x ∷ xs) = put x (ascending xs)

record IsAscendingOf (xs zs : List ℕ) : Type 0 where
  rises : Pairs (λ j k. j < k) zs
  has : (z : ℕ) → In z xs → In z zs
  only : (z : ℕ) → In z zs → In z xs
  short : length zs ≤ length xs

is_ascending_of : (xs : List ℕ) → IsAscendingOf xs (ascending xs)
unfolding ascending
is_ascending_of [] = record { rises = tt; has = λ z i. i; only = λ z i. i; short = omega arith }
is_ascending_of (x ∷ xs) =
    let later : IsAscendingOf xs (ascending xs) = is_ascending_of xs in
    let p : IsPut x (ascending xs) (put x (ascending xs)) = is_put x (ascending xs) later.rises in
    record {
      rises = p.rises;
      has = λ z i. p.has z (⊎_elim (λ w. inl w) (λ j. inr (later.has z j)) i);
      only = λ z i. ⊎_elim (λ w. inl w) (λ j. inr (later.only z j)) (p.only z i);
      short = omega (arith, p.short, later.short);
    }

-- ---- the pairs of the order

summary_of_none : (steps : List UpdateOperation) → SummarizeLater [] [] steps
summary_of_none steps = record { chains = λ x l. absurd (omega arith); readers = λ x l. absurd (omega arith) }

nothing_gathered : (h : Schedule) (updates : List TxnId) (i : ℕ) → rest h updates i ≡ [] → IsGathered h updates i [] [] []
nothing_gathered h updates i none = record {
  later = summary_of_none (rest h updates i);
  kept = subst (λ steps. Kept steps []) (sym none) (record { sound = λ p j. absurd j; covers = λ S holds i j c. absurd (true≢false (sym c)); next = λ x. tt });
  count_within_max = subst (λ steps. length no_pairs + length (open_reads steps) ≤ 2 * length steps) (sym none) (omega arith);
  falling = tt;
  above = λ p j. absurd j;
}
  where
    no_pairs : List Pair
    no_pairs = []

rest_of_none : (h : Schedule) (updates : List TxnId) (i : ℕ) → i ≡ length updates → rest h updates i ≡ []
rest_of_none h updates i e = ap (λ (ts : List TxnId). batches (operations h) i (map (λ (t : TxnId). t.0) ts)) (past updates i e)
  where
    past : (ts : List TxnId) (i : ℕ) → i ≡ length ts → drop i ts ≡ []
    past [] zero e = refl
    past [] (suc i) e = refl
    past (t ∷ ts) zero e = absurd (omega arith)
    past (t ∷ ts) (suc i) e = past ts i (omega arith)

gathered_from : (h : Schedule) (updates : List TxnId) (k i : ℕ) → i + k ≡ length updates → (pairs : List Pair) × IsGathered h updates i [] [] pairs
gathered_from h updates zero i e = ([], nothing_gathered h updates i (rest_of_none h updates i (omega arith)))
gathered_from h updates (suc k) i e =
    let later : (pairs : List Pair) × IsGathered h updates (suc i) [] [] pairs = gathered_from h updates k (suc i) (omega arith) in
    let accesses = accesses_in h.entries (get_or updates i no_txn).0 in
    let conflicts : List ℕ = batch_conflicts (map (operation_at i) accesses) (rest h updates (suc i)) in
    let others : List ℕ = ascending conflicts in
    let a : IsAscendingOf conflicts others = is_ascending_of conflicts in (
      later.0 ++ reverse (pairs_from i others),
      gathered_more h updates i (suc i) refl (omega arith) no_txn [] [] later.0 later.1 accesses refl [] [] (summary_of_none (map (operation_at i) accesses ++ rest h updates (suc i)))
          conflicts others refl (All-from_pairs (λ j k. j < k) others a.rises)
          (λ j c. In-Contains others j (a.has j (Contains-In conflicts j c))) (λ j c. In-Contains conflicts j (a.only j (Contains-In others j c))) a.short
          (later.0 ++ reverse (pairs_from i others)) refl,
    )

-- ---- the order

-- the relevant updates of a query, and a conflict order of them
pub record HasOrder (h : Schedule) (q : ℕ) : Type 0 where
  pub order : ConflictOrder
  pub relevant : AreRelevant h q (map (λ t. t.0) order.commits)
  pub is_order : IsConflictOrderOn h q (map (λ t. t.0) order.commits) order

pub numbered : List ℕ → List TxnId
numbered [] = []
numbered (u ∷ us) = record { 0 = u } ∷ numbered us

pub numbers_same : (us : List ℕ) → us ≡ map (λ (t : TxnId). t.0) (numbered us)
unfolding numbered
numbers_same [] = refl
numbers_same (u ∷ us) = ap (λ vs. u ∷ vs) (numbers_same us)

pub has_order : (d : DistanceFunction) (h : Schedule) (q : ℕ) → IsLegal d h → HasOrder h q
has_order d h q legal =
    let found : (us : List ℕ) × AreRelevant h q us = relevant_exist d h q legal in
    let commits : List TxnId = numbered found.0 in
    let relevant : AreRelevant h q (map (λ (t : TxnId). t.0) commits) = subst (AreRelevant h q) (numbers_same found.0) found.1 in
    let n : ℕ = length (must h q) in
    let run : IsRelevantRun h q n commits = relevant_run d h q legal commits relevant n refl in
    let gathered : (pairs : List Pair) × IsGathered h commits 0 [] [] pairs = gathered_from h commits (length commits) 0 (omega arith) in
    let before : List Pair = reverse gathered.0 in
    let steps : List UpdateOperation = batches (operations h) 0 (map (λ (t : TxnId). t.0) commits) in
    let chains = map (λ x. chain_from (last_by_update steps x) (length commits)) (range_with_len 0 (length h.opening)) in
    record {
      order = record { commits = commits; before = before; must = range_with_len 0 n; chains = chains };
      relevant = relevant;
      is_order = made d h legal commits run.once run.keeps run.count_within_max before (gathered_ascending h commits 0 refl [] [] gathered.0 gathered.1)
          (gathered_conflicting h commits 0 refl [] [] gathered.0 gathered.1, gathered_next h commits 0 refl [] [] gathered.0 gathered.1)
          chains refl n run.first_inside (range_with_len 0 n) refl q run.musts;
    }
