-- A search back in commit order finds the relevant updates.
use Rattle.std.proofs.Common.{◌≡◌, ◌≢◌, ◌↔◌, ◌⊎◌, ℕ, zero, suc, ◌<◌, ◌≤◌, Bool, true, false, not, ◌&&◌, ◌||◌, List, [], ◌∷◌, ◌++◌, reverse, length, drop, get_or, refl, sym, ◌∙◌, ap, subst, arith, inl, inr, ⊎_elim, AllPairs, Contains, filter, map, cond, eqb, if◌then◌else◌, IsTrue}
use Rattle.std.specs.List.{list_any}
use Rattle.std.proofs.lemmas.List.{reverse-append}
use Rattle.std.proofs.lemmas.Bool.{true≢false, and_parts, and_from, or_cases, or_left, or_right, eqb-true, eq-eqb, ne_eqb, false_from_ne_true}
use Rattle.esr_base.specs.declared.numbers.TxnId.{TxnId}
use Rattle.esr_history.specs.Machine.{DistanceFunction, Schedule, IsLegal}
use Rattle.esr_history.specs.Operations.{Operation, operations}
use Rattle.esr_history.specs.Serial.{is_before}
use Rattle.esr_history.specs.Queries.{updates_committed_before, must, reads_by}
use Rattle.esr_history.proofs.Membership.{In, In-Contains, Contains-In, In-any, In-filter, In-of_filter, In-from_any, any-from_In, All-from_pairs, filter_agree_in}
use Rattle.esr_history.proofs.Traces.{writes_item}
use Rattle.esr_history.proofs.Versions.{wrote_by, wrote_parts}
use Rattle.esr_history.proofs.TraceAgreement.{wrote_trace}
use Rattle.esr_order.specs.declared.search.Items.{Items}
use Rattle.esr_order.specs.Placements.{is_among}
use Rattle.esr_order.specs.Scans.{access_of, accesses_in, Access}
use Rattle.esr_order.specs.Chains.{update_at, nth}
use Rattle.esr_order.specs.Relevant.{has_written, has_written_read, IsConflictPath, IsRelevant, AreRelevant}
use Rattle.esr_order.specs.BackwardSearch.{marked, is_access, Seen, seen_items, conflicts_with}
use Rattle.esr_order.proofs.ConflictOrder.{in_order}
use Rattle.esr_order.proofs.Early.{must_positions, must_below}
use Rattle.esr_order.proofs.Complete.{range_below}
use Rattle.esr_order.proofs.RelevantLaws.{relevant_back}
use Rattle.esr_order.proofs.RelevantFound.{there, low_must}
use Rattle.esr_order.proofs.Gathering.{no_txn, drop_next}
use Rattle.esr_order.proofs.Batches.{up, ahead, conflict_parts}
use Rattle.esr_order.proofs.Lists.{in_map, of_map, at_place}

-- ---- the rest of a list from an index on

in_drop : (xs : List ℕ) (i j : ℕ) → i ≤ j → j < length xs → In (nth xs j) (drop i xs)
in_drop [] i j l m = absurd (omega arith)
in_drop (x ∷ xs) zero zero l m = inl refl
in_drop (x ∷ xs) zero (suc j) l m = inr (in_drop xs 0 j (omega arith) (omega arith))
in_drop (x ∷ xs) (suc i) zero l m = absurd (omega arith)
in_drop (x ∷ xs) (suc i) (suc j) l m = in_drop xs i j (omega arith) (omega arith)

of_drop : (xs : List ℕ) (i u : ℕ) → In u (drop i xs) → (j : ℕ) × (i ≤ j) × (j < length xs) × (nth xs j ≡ u)
of_drop [] zero u j = absurd j
of_drop [] (suc i) u j = absurd j
of_drop (x ∷ xs) zero u j = ⊎_elim (λ e. (0, omega arith, omega arith, e)) (λ k. let r = of_drop xs 0 u k in let l : r.0 < length xs = r.2 in (suc r.0, omega arith, omega arith, r.3)) j
of_drop (x ∷ xs) (suc i) u j = let r = of_drop xs i u j in let low : i ≤ r.0 = r.1 in let l : r.0 < length xs = r.2 in (suc r.0, omega arith, omega arith, r.3)

-- the number of an update by its position
pub number_at : (ts : List TxnId) (us : List ℕ) (i : ℕ) (d : TxnId) → map (λ t. t.0) ts ≡ us → i < length ts → (get_or ts i d).0 ≡ nth us i
number_at ts us i d is l = at ts i l ∙ ap (λ vs. nth vs i) is
  where
    at : (ts : List TxnId) (i : ℕ) → i < length ts → (get_or ts i d).0 ≡ nth (map (λ t. t.0) ts) i
    at [] i l = absurd (omega arith)
    at (t ∷ ts) zero l = refl
    at (t ∷ ts) (suc i) l = at ts i (omega arith)

-- ---- the operations of a transaction on an item

-- whether t wrote item x, or read it
abbrev pub did : Schedule → Bool → ℕ → ℕ → Bool
did h writes x t = list_any (is_access writes x) (accesses_in h.entries t)

is_kind : (w b : Bool) → (if w then b else not b) ≡ true → b ≡ w
is_kind true true e = refl
is_kind true false e = absurd (true≢false (sym e))
is_kind false true e = absurd (true≢false (sym e))
is_kind false false e = refl

kind_is : (w b : Bool) → b ≡ w → (if w then b else not b) ≡ true
kind_is true true e = refl
kind_is true false e = absurd (true≢false (sym e))
kind_is false true e = absurd (true≢false e)
kind_is false false e = refl

pub did_by_operation : (h : Schedule) (w : Bool) (x t : ℕ) → did h w x t ≡ true → (o : Operation) × In o (operations h) × (o.txn ≡ t) × (o.item ≡ x) × (o.writes ≡ w)
did_by_operation h w x t is =
    let a = In-any (is_access w x) (accesses_in h.entries t) is in
    let o = of_map access_of (filter (λ (o : Operation). eqb o.txn t) (operations h)) a.0 a.1 in
    let p = In-of_filter (λ (o : Operation). eqb o.txn t) (operations h) o.0 o.1 in
    let r = and_parts (if w then a.0.writes else not a.0.writes) (eqb a.0.item.0 x) a.2 in
    (o.0, p.0, eqb-true o.0.txn t p.1, ap (λ (a : Access). a.item.0) o.2 ∙ eqb-true a.0.item.0 x r.1, ap (λ (a : Access). a.writes) o.2 ∙ is_kind w a.0.writes r.0)

pub accessed : (h : Schedule) (o : Operation) (t : ℕ) → In o (operations h) → o.txn ≡ t → In (access_of o) (accesses_in h.entries t)
accessed h o t i is = in_map access_of (filter (λ (o : Operation). eqb o.txn t) (operations h)) o (In-filter (λ (o : Operation). eqb o.txn t) (operations h) o i (eq-eqb o.txn t is))

pub operation_did : (h : Schedule) (w : Bool) (x t : ℕ) (o : Operation) → In o (operations h) → o.txn ≡ t → o.item ≡ x → o.writes ≡ w → did h w x t ≡ true
operation_did h w x t o i txn item writes =
    any-from_In (is_access w x) (accesses_in h.entries t) (access_of o) (accessed h o t i txn) (and_from (if w then o.writes else not o.writes) (eqb o.item x) (kind_is w o.writes writes) (eq-eqb o.item x item))

-- the items seen are those of these updates, and those that q read
pub record AreSeen (h : Schedule) (q : ℕ) (us : List ℕ) (s : Seen) : Type 0 where
  pub read : (x : ℕ) → marked s.read x ≡ (list_any (did h false x) us || did h false x q)
  pub written : (x : ℕ) → marked s.written x ≡ list_any (did h true x) us

pub seen_more : (h : Schedule) (q u : ℕ) (us : List ℕ) (s t : Seen) → AreSeen h q us s → ((x : ℕ) → marked t.read x ≡ (marked s.read x || did h false x u)) → ((x : ℕ) → marked t.written x ≡ (marked s.written x || did h true x u)) → AreSeen h q (u ∷ us) t
seen_more h q u us s t a read written = record {
  read = λ x. read x ∙ (ap (λ b. b || did h false x u) (a.read x) ∙ reversed_chain (list_any (did h false x) us) (did h false x q) (did h false x u));
  written = λ x. written x ∙ (ap (λ b. b || did h true x u) (a.written x) ∙ swapped (list_any (did h true x) us) (did h true x u));
}
  where
    reversed_chain : (a b c : Bool) → ((a || b) || c) ≡ ((c || a) || b)
    reversed_chain true b true = refl
    reversed_chain true b false = refl
    reversed_chain false true true = refl
    reversed_chain false true false = refl
    reversed_chain false false true = refl
    reversed_chain false false false = refl

    swapped : (a c : Bool) → (a || c) ≡ (c || a)
    swapped true true = refl
    swapped true false = refl
    swapped false true = refl
    swapped false false = refl

-- the relevant ones among the updates of q from position i on
pub record IsRelevantFrom (h : Schedule) (q i : ℕ) (us : List ℕ) : Type 0 where
  pub in_order : us ≡ filter (is_among us) (drop i (updates_committed_before h q))
  pub relevant : (u : ℕ) → In u us ↔ (In u (drop i (updates_committed_before h q)) × IsRelevant h q u)

pub relevant_all : (h : Schedule) (q : ℕ) (us : List ℕ) → IsRelevantFrom h q 0 us → AreRelevant h q us
relevant_all h q us n = record {
  in_order = n.in_order;
  relevant = λ u. (
    (λ c. let r = (n.relevant u).0 (Contains-In us u c) in (In-Contains (updates_committed_before h q) u r.0, r.1)),
    (λ r. In-Contains us u ((n.relevant u).1 (Contains-In (updates_committed_before h q) u r.0, r.1))),
  );
}

module _ (d : DistanceFunction) (h : Schedule) (q : ℕ) (legal : IsLegal d h) where
  once : AllPairs (λ u v. u ≢ v) (updates_committed_before h q)
  once = All-from_pairs (λ u v. u ≢ v) (updates_committed_before h q) (in_order d h q legal).once

  keeps : AllPairs (λ u v. is_before h v u ≡ false) (updates_committed_before h q)
  keeps = All-from_pairs (λ u v. is_before h v u ≡ false) (updates_committed_before h q) (in_order d h q legal).keeps

  -- the first of a row is before a relevant update
  row_first : (row : List ℕ) (u v : ℕ) → Contains (updates_committed_before h q) v → IsTrue (has_written_read h q v) → IsConflictPath h q u row v → (w : ℕ) × Contains (updates_committed_before h q) w × (is_before h u w ≡ true) × IsRelevant h q w
  row_first [] u v cv wrote r = (v, cv, r, inl wrote)
  row_first (w ∷ row) u v cv wrote r = (w, r.0, r.1, inr (inl (row, v, cv, wrote, r.2)))

  -- ---- one update further back

  module _ (i : ℕ) (inside : i < length (updates_committed_before h q)) (us : List ℕ) (so_far : IsRelevantFrom h q (suc i) us) where
    abbrev u : ℕ
    u = update_at h q i

    apart : (w : ℕ) → In w (drop (suc i) (updates_committed_before h q)) → u ≡ w → ⊥
    apart w j e = let r = of_drop (updates_committed_before h q) (suc i) w j in let low : suc i ≤ r.0 = r.1 in once i r.0 0 (omega arith) r.2 (e ∙ sym r.3)

    pub miss : (IsRelevant h q u → ⊥) → IsRelevantFrom h q i us
    miss far = record {
      in_order = so_far.in_order ∙ sym (ap (filter (is_among us)) (drop_next (updates_committed_before h q) i 0 inside)
          ∙ ap (λ b. cond b (u ∷ filter (is_among us) (drop (suc i) (updates_committed_before h q))) (filter (is_among us) (drop (suc i) (updates_committed_before h q))))
          (false_from_ne_true (is_among us u) (λ t. apart u ((so_far.relevant u).0 (In-from_any us u t)).0 refl)));
      relevant = λ w. (
        (λ j. let r = (so_far.relevant w).0 j in (subst (In w) (sym (drop_next (updates_committed_before h q) i 0 inside)) (inr r.0), r.1)),
        (λ r. ⊎_elim (λ e. absurd (far (subst (IsRelevant h q) (sym e) r.1))) (λ j. (so_far.relevant w).1 (j, r.1)) (subst (In w) (drop_next (updates_committed_before h q) i 0 inside) r.0)),
      );
    }

    pub hit : IsRelevant h q u → IsRelevantFrom h q i (u ∷ us)
    hit n = record {
      in_order =
          ap (λ l. u ∷ l) (so_far.in_order ∙ filter_agree_in (is_among us) (is_among (u ∷ us)) (drop (suc i) (updates_committed_before h q)) (λ w j. sym (ap (λ b. b || is_among us w) (ne_eqb u w (apart w j)))))
          ∙ sym (ap (filter (is_among (u ∷ us))) (drop_next (updates_committed_before h q) i 0 inside)
          ∙ ap (λ b. cond (b || is_among us u) (u ∷ filter (is_among (u ∷ us)) (drop (suc i) (updates_committed_before h q))) (filter (is_among (u ∷ us)) (drop (suc i) (updates_committed_before h q)))) (eq-eqb u u refl));
      relevant = λ w. (
        (λ j. ⊎_elim
            (λ e. (subst (In w) (sym (drop_next (updates_committed_before h q) i 0 inside)) (inl e), subst (IsRelevant h q) e n))
            (λ k. let r = (so_far.relevant w).0 k in (subst (In w) (sym (drop_next (updates_committed_before h q) i 0 inside)) (inr r.0), r.1))
            j),
        (λ r. ⊎_elim (λ e. inl e) (λ j. inr ((so_far.relevant w).1 (j, r.1))) (subst (In w) (drop_next (updates_committed_before h q) i 0 inside) r.0)),
      );
    }

    module _ (s : Seen) (seen : AreSeen h q us s) where
      -- an update with an operation that conflicts with a relevant update is relevant
      by_update : (o p : Operation) → In o (operations h) → In p (operations h) → o.txn ≡ u → In p.txn us → o.item ≡ p.item → (o.writes || p.writes) ≡ true → IsRelevant h q u
      by_update o p io ip own there_ item writes =
          let n = (so_far.relevant p.txn).0 there_ in
          let r = of_drop (updates_committed_before h q) (suc i) p.txn n.0 in
          let low : suc i ≤ r.0 = r.1 in
          let back : is_before h p.txn u ≡ false = ap (λ v. is_before h v u) (sym r.3) ∙ keeps i r.0 0 (omega arith) r.2 in
          let before : is_before h u p.txn ≡ true = ahead h o p io ip (λ e. apart p.txn n.0 (sym own ∙ e)) item writes u p.txn own refl back in
          relevant_back d h q legal u p.txn (there d h q legal i inside) before (subst (Contains (updates_committed_before h q)) r.3 (there d h q legal r.0 r.2)) n.1

      by_read : (o p : Operation) → In o (operations h) → In p (operations h) → o.txn ≡ u → p.txn ≡ q → o.item ≡ p.item → o.writes ≡ true → p.writes ≡ false → IsRelevant h q u
      by_read o p io ip own reads item writes read =
          inl (any-from_In (λ (p : Operation). has_written h p.item u) (reads_by h q) p
          (In-filter (λ (p : Operation). not p.writes && eqb p.txn q) (operations h) p ip (and_from (not p.writes) (eqb p.txn q) (ap not read) (eq-eqb p.txn q reads)))
          (wrote_trace h u p.item ∙ any-from_In (wrote_by p.item u) (operations h) o io (and_from (writes_item p.item o) (eqb o.txn u) (and_from o.writes (eqb o.item p.item) writes (eq-eqb o.item p.item item)) (eq-eqb o.txn u own))))

      of_us : (w : Bool) (x : ℕ) → list_any (did h w x) us ≡ true → (p : Operation) × In p (operations h) × In p.txn us × (p.item ≡ x) × (p.writes ≡ w)
      of_us w x is = let t = In-any (did h w x) us is in let p = did_by_operation h w x t.0 t.2 in (p.0, p.1, subst (λ v. In v us) (sym p.2) t.1, p.3, p.4)

      pub relevant_by : list_any (conflicts_with s) (accesses_in h.entries u) ≡ true → IsRelevant h q u
      relevant_by is =
          let a = In-any (conflicts_with s) (accesses_in h.entries u) is in
          let o = of_map access_of (filter (λ (o : Operation). eqb o.txn u) (operations h)) a.0 a.1 in
          let p = In-of_filter (λ (o : Operation). eqb o.txn u) (operations h) o.0 o.1 in
          let own : o.0.txn ≡ u = eqb-true o.0.txn u p.1 in
          let item : o.0.item ≡ a.0.item.0 = ap (λ (a : Access). a.item.0) o.2 in
          let wrote : o.0.writes ≡ a.0.writes = ap (λ (a : Access). a.writes) o.2 in
          ⊎_elim
          (λ w. let b = of_us true a.0.item.0 (sym (seen.written a.0.item.0) ∙ w) in by_update o.0 b.0 p.0 b.1 own b.2 (item ∙ sym b.3) (or_right o.0.writes b.0.writes b.4))
          (λ r.
          let both = and_parts a.0.writes (marked s.read a.0.item.0) r in
          ⊎_elim
          (λ m. let b = of_us false a.0.item.0 m in by_update o.0 b.0 p.0 b.1 own b.2 (item ∙ sym b.3) (or_left o.0.writes b.0.writes (wrote ∙ both.0)))
          (λ m. let b = did_by_operation h false a.0.item.0 q m in by_read o.0 b.0 p.0 b.1 own b.2 (item ∙ sym b.3) (wrote ∙ both.0) b.4)
          (or_cases (list_any (did h false a.0.item.0) us) (did h false a.0.item.0 q) (sym (seen.read a.0.item.0) ∙ both.1)))
          (or_cases (marked s.written a.0.item.0) (a.0.writes && marked s.read a.0.item.0) a.2)

      -- ---- a relevant update has such an operation, or must be seen

      conflicts : (o : Operation) → In o (operations h) → o.txn ≡ u → conflicts_with s (access_of o) ≡ true → list_any (conflicts_with s) (accesses_in h.entries u) ≡ true
      conflicts o io own is = any-from_In (conflicts_with s) (accesses_in h.entries u) (access_of o) (accessed h o u io own) is

      with_read : (o p : Operation) → In o (operations h) → In p (operations h) → o.txn ≡ u → p.txn ≡ q → p.item ≡ o.item → o.writes ≡ true → p.writes ≡ false → list_any (conflicts_with s) (accesses_in h.entries u) ≡ true
      with_read o p io ip own reads item writes read =
          conflicts o io own (or_right (marked s.written o.item) (o.writes && marked s.read o.item) (and_from o.writes (marked s.read o.item) writes
          (seen.read o.item ∙ or_right (list_any (did h false o.item) us) (did h false o.item q) (operation_did h false o.item q p ip reads item read))))

      with_update : (o p : Operation) → In o (operations h) → In p (operations h) → o.txn ≡ u → In p.txn us → p.item ≡ o.item → (o.writes || p.writes) ≡ true → list_any (conflicts_with s) (accesses_in h.entries u) ≡ true
      with_update o p io ip own there_ item writes = at p.writes refl
        where
          at : (b : Bool) → p.writes ≡ b → list_any (conflicts_with s) (accesses_in h.entries u) ≡ true
          at true is = conflicts o io own (or_left (marked s.written o.item) (o.writes && marked s.read o.item)
              (seen.written o.item ∙ any-from_In (did h true o.item) us p.txn there_ (operation_did h true o.item p.txn p ip refl item is)))
          at false is = conflicts o io own (or_right (marked s.written o.item) (o.writes && marked s.read o.item)
              (and_from o.writes (marked s.read o.item) (⊎_elim (λ w. w) (λ w. absurd (true≢false (sym w ∙ is))) (or_cases o.writes p.writes writes))
              (seen.read o.item ∙ or_left (list_any (did h false o.item) us) (did h false o.item q) (any-from_In (did h false o.item) us p.txn there_ (operation_did h false o.item p.txn p ip refl item is)))))

      before_relevant : (w : ℕ) → Contains (updates_committed_before h q) w → is_before h u w ≡ true → IsRelevant h q w → list_any (conflicts_with s) (accesses_in h.entries u) ≡ true
      before_relevant w cw b n =
          let k = at_place (updates_committed_before h q) w (Contains-In (updates_committed_before h q) w cw) in
          let lt : i < k.0 = up h (updates_committed_before h q) once keeps i k.0 inside k.1 (ap (is_before h u) k.2 ∙ b) in
          let later : In w us = (so_far.relevant w).1 (subst (λ v. In v (drop (suc i) (updates_committed_before h q))) k.2 (in_drop (updates_committed_before h q) (suc i) k.0 (omega arith) k.1), n) in
          let c = conflict_parts h u w b in
          with_update c.0 c.1 c.2 c.3 c.4 (subst (λ v. In v us) (sym c.5) later) (sym c.6) c.7

      pub is_relevant_by : IsRelevant h q u → (i < length (must h q)) ⊎ (list_any (conflicts_with s) (accesses_in h.entries u) ≡ true)
      is_relevant_by n =
          elim n [
            | inl wrote ↦
                let r = In-any (λ (p : Operation). has_written h p.item u) (reads_by h q) wrote in
                let p = In-of_filter (λ (p : Operation). not p.writes && eqb p.txn q) (operations h) r.0 r.1 in
                let own = and_parts (not r.0.writes) (eqb r.0.txn q) p.1 in
                let o = In-any (wrote_by r.0.item u) (operations h) (sym (wrote_trace h u r.0.item) ∙ r.2) in
                let w = wrote_parts r.0.item u o.0 o.2 in
                inr (with_read o.0 r.0 o.1 p.0 w.2 (eqb-true r.0.txn q own.1) (sym w.1) w.0 (Rattle.std.proofs.lemmas.Bool.not-true r.0.writes own.0))
            | inr more ↦ elim more [
              | inl row ↦ let w = row_first row.0 u row.1 row.2 row.3 row.4 in inr (before_relevant w.0 w.1 w.2 w.3)
              | inr sees ↦ inl (low sees)
            ]
          ]
        where
          low : Contains (must h q) u → i < length (must h q)
          low c =
              let n = length (must h q) in
              let k = of_map (update_at h q) (Rattle.std.specs.List.range_with_len 0 n) u (subst (In u) (sym (must_positions d h q legal n refl)) (Contains-In (must h q) u c)) in
              let l : k.0 < n = Rattle.esr_history.proofs.Membership.each_at (λ i. i < n) (Rattle.std.specs.List.range_with_len 0 n) k.0 (range_below 0 n n (omega arith)) k.1 in
              let upper_bound : n ≤ length (updates_committed_before h q) = must_below d h q legal in
              ⊎_elim (λ e. omega (arith, e, l))
              (λ o. ⊎_elim (λ lt. absurd (once k.0 i 0 lt inside k.2)) (λ gt. omega (arith, gt, l)) o)
              (Rattle.std.proofs.lemmas.Bool.cases_order k.0 i)

-- ---- the state of the search, and one step of it

pub record IsSought (h : Schedule) (q i : ℕ) (items : Items) (relevant : List TxnId) : Type 0 where
  pub read_len : length items.read.items ≡ length h.opening
  pub written_len : length items.written.items ≡ length h.opening
  pub seen : AreSeen h q (map (λ t. t.0) (reverse relevant)) (seen_items items)
  pub relevant_from : IsRelevantFrom h q i (map (λ t. t.0) (reverse relevant))

module _ (d : DistanceFunction) (h : Schedule) (q : ℕ) (legal : IsLegal d h) (updates : List TxnId) (same : map (λ t. t.0) updates ≡ updates_committed_before h q) (k i : ℕ) (next : k ≡ suc i) (inside : i < length (updates_committed_before h q)) (here : i < length updates)
    (items : Items) (relevant : List TxnId) (so_far : IsSought h q k items relevant) (list : List Access) (did_by : list ≡ accesses_in h.entries (get_or updates i no_txn).0) where
  abbrev us : List ℕ
  us = map (λ (t : TxnId). t.0) (reverse relevant)

  abbrev own : ℕ
  own = update_at h q i

  from_next : IsRelevantFrom h q (suc i) us
  from_next = subst (λ m. IsRelevantFrom h q m us) next so_far.relevant_from

  number : (get_or updates i no_txn).0 ≡ own
  number = number_at updates (updates_committed_before h q) i no_txn same here

  accesses : list ≡ accesses_in h.entries own
  accesses = did_by ∙ ap (accesses_in h.entries) number

  pub sought_relevant : (first : ℕ) → first ≡ length (must h q) → (i < first) ⊎ (list_any (conflicts_with (seen_items items)) list ≡ true) → IsRelevant h q own
  sought_relevant first firsts why = ⊎_elim
      (λ l. inr (inr (low_must d h q legal i (omega (arith, l, firsts)))))
      (λ is. relevant_by d h q legal i inside us from_next (seen_items items) so_far.seen (sym (ap (list_any (conflicts_with (seen_items items))) accesses) ∙ is))
      why

  pub sought_keep : (first : ℕ) → first ≡ length (must h q) → first ≤ i → list_any (conflicts_with (seen_items items)) list ≡ false → IsSought h q i items relevant
  sought_keep first firsts low none = record {
    read_len = so_far.read_len;
    written_len = so_far.written_len;
    seen = so_far.seen;
    relevant_from = miss d h q legal i inside us from_next (λ n. ⊎_elim
        (λ l. absurd (omega (arith, l, low, firsts)))
        (λ is. true≢false (sym (ap (list_any (conflicts_with (seen_items items))) accesses ∙ is) ∙ none))
        (is_relevant_by d h q legal i inside us from_next (seen_items items) so_far.seen n));
  }

  pub sought_add : IsRelevant h q own → (more : Items) (nearer : List TxnId) → nearer ≡ relevant ++ get_or updates i no_txn ∷ [] → length more.read.items ≡ length items.read.items → length more.written.items ≡ length items.written.items
      → ((x : ℕ) → marked more.read.items x ≡ (marked items.read.items x || list_any (is_access false x) list))
      → ((x : ℕ) → marked more.written.items x ≡ (marked items.written.items x || list_any (is_access true x) list)) → IsSought h q i more nearer
  sought_add is_relevant more nearer pushed read_len written_len read written =
      let numbers : own ∷ us ≡ map (λ t. t.0) (reverse nearer) =
      sym (ap (λ l. map (λ t. t.0) (reverse l)) pushed ∙ (ap (map (λ t. t.0)) (reverse-append relevant (get_or updates i no_txn ∷ [])) ∙ ap (λ n. n ∷ us) number)) in
      record {
        read_len = read_len ∙ so_far.read_len;
        written_len = written_len ∙ so_far.written_len;
        seen = subst (λ vs. AreSeen h q vs (seen_items more)) numbers (seen_more h q own us (seen_items items) (seen_items more) so_far.seen
            (λ x. read x ∙ ap (λ l. marked items.read.items x || list_any (is_access false x) l) accesses)
            (λ x. written x ∙ ap (λ l. marked items.written.items x || list_any (is_access true x) l) accesses));
        relevant_from = subst (IsRelevantFrom h q i) numbers (hit d h q legal i inside us from_next is_relevant);
      }
