-- The search yields an order of the query.
use Rattle.std.proofs.Common.{◌≡◌, ◌≢◌, ℕ, zero, suc, ◌+◌, ◌<◌, ◌≤◌, Bool, true, false, List, [], ◌∷◌, length, None, Some, All, AllPairs, Contains, refl, sym, ◌∙◌, ap, subst, arith, inl, inr, ⊎_elim, map, filter, eqb, slice_index_or, get_or, IsTrue, is_some}
use Rattle.std.specs.List.{slice_get, range_with_len, AllByRecursion}
use Rattle.std.proofs.lemmas.Bool.{cases_order}
use Rattle.std.proofs.lemmas.List.Elements.{All-contains, All-from_recursion, recursion_from_All, Contains-get_or}
use Rattle.esr_base.specs.declared.numbers.TxnId.{TxnId}
use Rattle.esr_history.specs.Machine.{DistanceFunction, Schedule, IsLegal}
use Rattle.esr_history.specs.Operations.{operations}
use Rattle.esr_history.specs.Serial.{is_before, values_by}
use Rattle.esr_history.specs.Queries.{updates_committed_before, must}
use Rattle.esr_history.proofs.Membership.{In, In-filter, Contains-In, In-Contains, Pairs, All-from_pairs, Pairs-filter, In-of_filter, each_in, each_at, filter_none_in}
use Rattle.esr_history.proofs.Versions.{wrote_by, wrote_parts}
use Rattle.esr_history.proofs.TraceAgreement.{values_trace}
use Rattle.esr_history.proofs.WithinRanges.{legal_items}
use Rattle.esr_order.specs.UpdateOperations.{UpdateOperation}
use Rattle.esr_order.specs.Batches.{batches}
use Rattle.esr_order.specs.ConflictPairs.{is_conflict_pair, IsLexLess}
use Rattle.esr_order.specs.Conflicts.{AreConflicts, AreNextPaired}
use Rattle.esr_order.specs.Chains.{Chain, chain_from, if_written, some_chain, last_of, last_in, last_by_update, last_among, nth, chain_among}
use Rattle.esr_order.specs.Orders.{ConflictOrder, chain_at, written_chain, IsClosedAt, IsClosedOn, IsConflictOrderOn, IsConflictOrder}
use Rattle.esr_order.proofs.Kept.{on, writes_in}
use Rattle.esr_order.proofs.Fewer.{writes_on, between, wrote_last, last_wrote, next_in}
use Rattle.esr_order.proofs.Placing.{chain_agree}
use Rattle.esr_order.proofs.Lists.{in_map, of_map, same_default}
use Rattle.esr_order.proofs.Batches.{placed, rises, up, pair_inside, pair_before, last_written_by}

-- numbers in a row
range_above : (a n b : ℕ) → b ≤ a → AllByRecursion (λ i. b ≤ i) (range_with_len a n)
range_above a zero b l = tt
range_above a (suc n) b l = (l, range_above (a + 1) n b (omega arith))

pub range_below : (a n m : ℕ) → a + n ≤ m → AllByRecursion (λ i. i < m) (range_with_len a n)
range_below a zero m l = tt
range_below a (suc n) m l = (omega arith, range_below (a + 1) n m (omega arith))

range_rising : (a n : ℕ) → Pairs (λ i j. i < j) (range_with_len a n)
range_rising a zero = tt
range_rising a (suc n) = (each_in (λ j. a < j) (range_with_len (a + 1) n) (λ j i. let l : a + 1 ≤ j = each_at (λ k. a + 1 ≤ k) (range_with_len (a + 1) n) j (range_above (a + 1) n (a + 1) (omega arith)) i in omega arith), range_rising (a + 1) n)

pub in_range : (a n i : ℕ) → a ≤ i → i < a + n → In i (range_with_len a n)
in_range a zero i l m = absurd (omega arith)
in_range a (suc n) i l m = ⊎_elim (λ e. inl e) (λ o. ⊎_elim (λ lt. inr (in_range (a + 1) n i (omega arith) (omega arith))) (λ gt. absurd (omega (arith, gt, l))) o) (cases_order a i)

get_range : (C : Type 0) (f : ℕ → C) (a n x : ℕ) → x < n → slice_get (map f (range_with_len a n)) x ≡ Some (f (a + x))
get_range C f a zero x l = absurd (omega arith)
get_range C f a (suc n) zero l = let e : a ≡ a + 0 = omega arith in ap (λ k. Some (f k)) e
get_range C f a (suc n) (suc x) l = let e : a + 1 + x ≡ a + suc x = omega arith in get_range C f (a + 1) n x (omega arith) ∙ ap (λ k. Some (f k)) e

get_past : (C : Type 0) (f : ℕ → C) (a n x : ℕ) → n ≤ x → slice_get (map f (range_with_len a n)) x ≡ None
get_past C f a zero x l = refl
get_past C f a (suc n) zero l = absurd (omega arith)
get_past C f a (suc n) (suc x) l = get_past C f (a + 1) n x (omega arith)

module _ (d : DistanceFunction) (h : Schedule) (q : ℕ) (legal : IsLegal d h) (us : List ℕ) (once : AllPairs (λ u v. u ≢ v) us) (keeps : AllPairs (λ u v. is_before h v u ≡ false) us) where
  abbrev steps : List UpdateOperation
  steps = batches (operations h) 0 us

  same_pairs : (i j : ℕ) → i < length us → j < length us → is_conflict_pair steps i j ≡ is_before h (nth us i) (nth us j)
  same_pairs i j li lj = pair_before h us once keeps i j li lj

  last_same : (x i : ℕ) → i < length us → last_by_update steps x i ≡ last_among h us x i
  last_same x i l = last_written_by (operations h) us x i l ∙ sym (ap last_of (values_trace h x (nth us i)))

  all_placed : All (λ s. s.update_index < length us) steps
  all_placed = placed (operations h) us

  rising : (x : ℕ) → Pairs (λ (a b : UpdateOperation). a.update_index ≤ b.update_index) (writes_in (on x steps))
  rising x = Pairs-filter (λ (a b : UpdateOperation). a.update_index ≤ b.update_index) (λ (s : UpdateOperation). s.writes) (on x steps) (Pairs-filter (λ (a b : UpdateOperation). a.update_index ≤ b.update_index) (λ (s : UpdateOperation). eqb s.item x) steps (rises (operations h) 0 us))

  module _ (before : List (ℕ × ℕ)) (ascends : AllPairs IsLexLess before) (conflicting : AreConflicts steps before) (next : (x : ℕ) → AreNextPaired before (writes_in (on x steps))) (n : ℕ) (part : n ≤ length us) (musts : map (nth us) (range_with_len 0 n) ≡ must h q) (count_within_max : length us ≤ 65535) (commits : List TxnId) where
    abbrev found : ConflictOrder
    found = record { commits = commits; before = before; must = range_with_len 0 n; chains = map (λ x. chain_from (last_by_update steps x) (length us)) (range_with_len 0 (length h.opening)) }

    upward : All (λ p. (p.0 < p.1) × (p.1 < length us) × IsTrue (is_before h (nth us p.0) (nth us p.1))) before
    upward k e l =
        let p = get_or before k e in
        let is : is_conflict_pair steps p.0 p.1 ≡ true = conflicting.sound k e l in
        let w = pair_inside h us once keeps p.0 p.1 is in
        let b : is_before h (nth us p.0) (nth us p.1) ≡ true = sym (same_pairs p.0 p.1 w.0 w.1) ∙ is in
        (up h us once keeps p.0 p.1 w.0 w.1 b, w.1, b)

    closed_to : (S : ℕ → Bool) → IsClosedAt us found S → IsClosedOn h q us S
    closed_to S c = record {
      downward = λ u v cu cv b sv.
          let at_u : nth us cu.0 ≡ u = same_default us cu.0 0 u cu.1 ∙ cu.2 in
          let at_v : nth us cv.0 ≡ v = same_default us cv.0 0 v cv.1 ∙ cv.2 in
          let pair : is_conflict_pair steps cu.0 cv.0 ≡ true = same_pairs cu.0 cv.0 cu.1 cv.1 ∙ (ap (λ w. is_before h w (nth us cv.0)) at_u ∙ (ap (is_before h u) at_v ∙ b)) in
          ap S (sym at_u) ∙ conflicting.closed (λ i. S (nth us i)) c.downward cu.0 cv.0 pair (ap S at_v ∙ sv);
      holds_must = λ u m.
          let i : In u (map (nth us) (range_with_len 0 n)) = subst (In u) (sym (musts)) (Contains-In (must h q) u m) in
          let at = of_map (nth us) (range_with_len 0 n) u i in
          ap S (sym at.2) ∙ each_at (λ k. S (nth us k) ≡ true) (range_with_len 0 n) at.0 (recursion_from_All (λ k. S (nth us k) ≡ true) (range_with_len 0 n) c.holds_must) at.1;
    }

    closed_from : (S : ℕ → Bool) → IsClosedOn h q us S → IsClosedAt us found S
    closed_from S c = record {
      downward = λ k e l sv.
          let p = upward k e l in
          c.downward (nth us (get_or before k e).0) (nth us (get_or before k e).1) (here (get_or before k e).0 (omega (arith, p.0, p.1))) (here (get_or before k e).1 p.1) p.2 sv;
      holds_must = All-from_recursion (λ i. S (nth us i) ≡ true) (range_with_len 0 n)
          (each_in (λ i. S (nth us i) ≡ true) (range_with_len 0 n) (λ i j. c.holds_must (nth us i)
          (In-Contains (must h q) (nth us i) (subst (In (nth us i)) (musts) (in_map (nth us) (range_with_len 0 n) i j)))));
    }
      where
        here : (i : ℕ) → i < length us → Contains us (nth us i)
        here i l = Contains-get_or us i 0 l

    -- an item past the count was written by none
    none_past : (x : ℕ) → length h.opening ≤ x → (u : ℕ) → values_by h x u ≡ []
    none_past x past u =
        values_trace h x u
        ∙ ap (map (λ o. o.value)) (filter_none_in (wrote_by x u) (operations h) (λ o i. Rattle.std.proofs.lemmas.Bool.false_from_ne_true (wrote_by x u o) (λ is.
        let below : o.item < length h.opening = legal_items d h legal o i in
        let here : o.item ≡ x = (wrote_parts x u o is).1 in
        let bad : ⊥ = omega arith in bad)))

    chains_found : (x : ℕ) → chain_at found x ≡ chain_among h us x
    chains_found x =
        elim (Rattle.std.proofs.lemmas.Bool.cases_lt x (length h.opening)) [
          | inl inside ↦
              ap written_chain (get_range Chain (λ x. chain_from (last_by_update steps x) (length us)) 0 (length h.opening) x inside)
              ∙ ap some_chain (ap (λ k. chain_from (last_by_update steps k) (length us)) zero_more ∙ chain_agree (last_by_update steps x) (last_among h us x) (length us) (λ i l. last_same x i l))
          | inr past ↦
              ap written_chain (get_past Chain (λ x. chain_from (last_by_update steps x) (length us)) 0 (length h.opening) x past)
              ∙ sym (ap some_chain (chain_agree (last_among h us x) (λ i. None) (length us) (λ i l. ap last_of (none_past x past (nth us i)))) ∙ ap (λ ws. if_written ws (chain_from (λ i. None) (length us))) (none_write 0 (length us)))
        ]
      where
        zero_more : 0 + x ≡ x
        zero_more = omega arith

        none_write : (a m : ℕ) → (chain_from (λ i. None) m).writers ≡ []
        none_write a m = filter_none_in (λ i. false) (range_with_len 0 m) (λ i j. refl)

    -- the contents of a chain
    chain_is : (x : ℕ) (c : Chain) → chain_at found x ≡ Some c → c ≡ chain_from (last_among h us x) (length us)
    chain_is x c is = written (chain_from (last_among h us x) (length us)) (sym (chains_found x) ∙ is)
      where
        written : (k : Chain) → some_chain k ≡ Some c → c ≡ k
        written k some = at k.writers some
          where
            at : (ws : List ℕ) → if_written ws k ≡ Some c → c ≡ k
            at [] bad = absurd (cc)
            at (w ∷ ws) same = sym (Rattle.std.proofs.lemmas.Option.same_Some k c same)

    neighbours : (x i : ℕ) (c : Chain) → chain_at found x ≡ Some c → i + 1 < length c.writers → Contains before (slice_index_or c.writers i 0, slice_index_or c.writers (i + 1) 0)
    neighbours x i c is inside =
        let ws : List ℕ = filter (λ i. is_some (last_among h us x i)) (range_with_len 0 (length us)) in
        let same : c.writers ≡ ws = ap (λ k. k.writers) (chain_is x c is) in
        let l : i + 1 < length ws = subst (λ l. i + 1 < length l) same inside in
        let wrote : All (λ w. (w < length us) × (is_some (last_among h us x w) ≡ true)) ws = All-from_recursion (λ w. (w < length us) × (is_some (last_among h us x w) ≡ true)) ws (each_in (λ w. (w < length us) × (is_some (last_among h us x w) ≡ true)) ws (λ w j.
        let p = In-of_filter (λ i. is_some (last_among h us x i)) (range_with_len 0 (length us)) w j in
        (each_at (λ w. w < length us) (range_with_len 0 (length us)) w (range_below 0 (length us) (length us) (omega arith)) p.0, p.1))) in
        let ascending : AllPairs (λ i j. i < j) ws = All-from_pairs (λ i j. i < j) ws (Pairs-filter (λ i j. i < j) (λ i. is_some (last_among h us x i)) (range_with_len 0 (length us)) (range_rising 0 (length us))) in
        subst (λ l. Contains before (slice_index_or l i 0, slice_index_or l (i + 1) 0)) (sym same)
        (let a = writer_there (slice_index_or ws i 0) (wrote i 0 (omega arith)) in
        let b = writer_there (slice_index_or ws (i + 1) 0) (wrote (i + 1) 0 l) in
        between (writes_in (on x steps)) before (next x) (rising x)
        (slice_index_or ws i 0) (slice_index_or ws (i + 1) 0) (ascending i (i + 1) 0 (omega arith) l) a.0 a.1 a.2 b.0 b.1 b.2
        (λ s j above. next_in ws ascending i l s.update_index (writer_listed s j) above))
      where
        last_here : (w : ℕ) → w < length us → last_in (writes_in (on x steps)) w ≡ last_among h us x w
        last_here w l = ap (λ ss. last_in ss w) (writes_on x steps) ∙ last_same x w l

        writer_there : (w : ℕ) → (w < length us) × (is_some (last_among h us x w) ≡ true) → (s : UpdateOperation) × In s (writes_in (on x steps)) × (s.update_index ≡ w)
        writer_there w p = last_wrote (writes_in (on x steps)) w (ap is_some (last_here w p.0) ∙ p.1)

        writer_listed : (s : UpdateOperation) → In s (writes_in (on x steps)) → In s.update_index (filter (λ i. is_some (last_among h us x i)) (range_with_len 0 (length us)))
        writer_listed s j =
            let at : s.update_index < length us = All-contains (λ (s : UpdateOperation). s.update_index < length us) steps s all_placed (In-Contains steps s (In-of_filter (λ (s : UpdateOperation). eqb s.item x) steps s (In-of_filter (λ (s : UpdateOperation). s.writes) (on x steps) s j).0).0) in
            In-filter (λ i. is_some (last_among h us x i)) (range_with_len 0 (length us)) s.update_index (in_range 0 (length us) s.update_index (omega arith) (omega arith))
            (sym (ap is_some (last_here s.update_index at)) ∙ wrote_last (writes_in (on x steps)) s j)

    pub order_found : map (λ t. t.0) commits ≡ us → IsConflictOrderOn h q us found
    order_found same =
        let len : length commits ≡ length us = sym (length_numbers commits) ∙ ap length same in
        let below : 0 + n ≤ length commits = omega arith in
        record {
          commits = same;
          count_within_max = subst (λ m. m ≤ 65535) (sym len) count_within_max;
          serial = record { lists = λ u. ((λ i. i), (λ i. i)); once = once; keeps = keeps };
          ascending = ascends;
          pairs = subst (λ m. All (λ p. (p.0 < p.1) × (p.1 < m) × IsTrue (is_before h (nth us p.0) (nth us p.1))) before) (sym len) upward;
          closed = λ S. (closed_to S, closed_from S);
          rising = All-from_pairs (λ i j. i < j) (range_with_len 0 n) (range_rising 0 n);
          within = All-from_recursion (λ i. i < length commits) (range_with_len 0 n) (range_below 0 n (length commits) below);
          musts = musts;
          chains = chains_found;
          neighbours = neighbours;
        }
      where
        length_numbers : (ts : List TxnId) → length (map (λ t. t.0) ts) ≡ length ts
        length_numbers [] = refl
        length_numbers (t ∷ ts) = ap suc (length_numbers ts)

-- among all updates of the query
pub order_whole : (h : Schedule) (q : ℕ) (o : ConflictOrder) → IsConflictOrderOn h q (updates_committed_before h q) o → IsConflictOrder h q o
order_whole h q o a = record {
  commits = a.commits;
  serial = a.serial;
  count_within_max = a.count_within_max;
  ascending = a.ascending;
  pairs = a.pairs;
  closed = λ S. (
    (λ c. let r = (a.closed S).0 (record { downward = c.downward; holds_must = c.holds_must }) in record { downward = r.downward; holds_must = r.holds_must }),
    (λ c. let r = (a.closed S).1 (record { downward = c.downward; holds_must = c.holds_must }) in record { downward = r.downward; holds_must = r.holds_must }),
  );
  rising = a.rising;
  within = a.within;
  musts = a.musts;
  chains = a.chains;
  neighbours = a.neighbours;
}
