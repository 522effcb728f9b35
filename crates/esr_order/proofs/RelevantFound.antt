-- The properties of the relevant updates that their order needs.
use Rattle.std.proofs.Common.{◌≡◌, ◌≢◌, ℕ, zero, suc, ◌<◌, ◌≤◌, Bool, true, false, List, [], ◌∷◌, length, refl, sym, ◌∙◌, ap, subst, arith, inl, inr, AllPairs, Contains, filter, map, cond}
use Rattle.std.specs.List.{range_with_len}
use Rattle.std.proofs.lemmas.List.{length-map}
use Rattle.esr_base.specs.declared.numbers.TxnId.{TxnId}
use Rattle.esr_history.specs.Machine.{DistanceFunction, Schedule, IsLegal}
use Rattle.esr_history.specs.Serial.{is_before}
use Rattle.esr_history.specs.Queries.{updates_committed_before, must}
use Rattle.esr_history.proofs.Membership.{In, In-Contains, Contains-In, any-from_number, each_at, Pairs, All-from_pairs, Pairs-filter}
use Rattle.esr_order.specs.Placements.{is_among}
use Rattle.esr_order.specs.Chains.{update_at, nth}
use Rattle.esr_order.specs.Relevant.{AreRelevant}
use Rattle.esr_order.proofs.ConflictOrder.{bounded_updates, in_order}
use Rattle.esr_order.proofs.Early.{must_positions, must_below}
use Rattle.esr_order.proofs.Complete.{range_below, in_range}
use Rattle.esr_order.proofs.Lists.{filter_shorter, in_map, same_default}

map_agree : (f g : ℕ → ℕ) (xs : List ℕ) → ((x : ℕ) → In x xs → f x ≡ g x) → map f xs ≡ map g xs
map_agree f g [] same = refl
map_agree f g (x ∷ xs) same = ap (λ y. y ∷ map f xs) (same x (inl refl)) ∙ ap (λ ys. g x ∷ ys) (map_agree f g xs (λ y j. same y (inr j)))

-- an initial segment of elements that pass keeps its indices in the filtered list
first_kept : (p : ℕ → Bool) (n : ℕ) (xs : List ℕ) → n ≤ length xs → ((i : ℕ) → i < n → p (nth xs i) ≡ true) → (n ≤ length (filter p xs)) × ((i : ℕ) → i < n → nth (filter p xs) i ≡ nth xs i)
first_kept p zero xs l pass = (omega arith, λ i m. absurd (omega arith))
first_kept p (suc n) [] l pass = absurd (omega arith)
first_kept p (suc n) (x ∷ xs) l pass =
    let rest = first_kept p n xs (omega arith) (λ i m. pass (suc i) (omega arith)) in
    subst (λ b. (suc n ≤ length (cond b (x ∷ filter p xs) (filter p xs))) × ((i : ℕ) → i < suc n → nth (cond b (x ∷ filter p xs) (filter p xs)) i ≡ nth (x ∷ xs) i)) (sym (pass 0 (omega arith)))
    (omega (arith, rest.0), λ i. at i rest.1)
  where
    at : (i : ℕ) → ((k : ℕ) → k < n → nth (filter p xs) k ≡ nth xs k) → i < suc n → nth (x ∷ filter p xs) i ≡ nth (x ∷ xs) i
    at zero rest m = refl
    at (suc i) rest m = rest i (omega arith)

pub record IsRelevantRun (h : Schedule) (q first : ℕ) (commits : List TxnId) : Type 0 where
  pub once : AllPairs (λ u v. u ≢ v) (map (λ t. t.0) commits)
  pub count_within_max : length commits ≤ 65535
  pub keeps : AllPairs (λ u v. is_before h v u ≡ false) (map (λ t. t.0) commits)
  pub first_inside : first ≤ length commits
  pub musts : map (nth (map (λ t. t.0) commits)) (range_with_len 0 first) ≡ must h q

module _ (d : DistanceFunction) (h : Schedule) (q : ℕ) (legal : IsLegal d h) where
  pub there : (i : ℕ) → i < length (updates_committed_before h q) → Contains (updates_committed_before h q) (update_at h q i)
  there i l = (i, l, same_default (updates_committed_before h q) i (update_at h q i) 0 l)

  -- a query must see the first of its updates
  pub low_must : (i : ℕ) → i < length (must h q) → Contains (must h q) (update_at h q i)
  low_must i l =
      let n = length (must h q) in
      In-Contains (must h q) (update_at h q i) (subst (In (update_at h q i)) (must_positions d h q legal n refl) (in_map (update_at h q) (range_with_len 0 n) i (in_range 0 n i (omega arith) (omega arith))))

  module _ (commits : List TxnId) (relevant : AreRelevant h q (map (λ t. t.0) commits)) where
    abbrev us : List ℕ
    us = map (λ (t : TxnId). t.0) commits

    ordered : (R : ℕ → ℕ → Type 0) → Pairs R (updates_committed_before h q) → AllPairs R us
    ordered R all = All-from_pairs R us (subst (Pairs R) (sym relevant.in_order) (Pairs-filter R (is_among us) (updates_committed_before h q) all))

    count : length commits ≡ length (filter (is_among us) (updates_committed_before h q))
    count = sym (length-map commits (λ (t : TxnId). t.0)) ∙ ap length relevant.in_order

    firsts : (length (must h q) ≤ length (filter (is_among us) (updates_committed_before h q))) × ((i : ℕ) → i < length (must h q) → nth (filter (is_among us) (updates_committed_before h q)) i ≡ update_at h q i)
    firsts = first_kept (is_among us) (length (must h q)) (updates_committed_before h q) (must_below d h q legal)
        (λ i l.
        let below : length (must h q) ≤ length (updates_committed_before h q) = must_below d h q legal in
        any-from_number us (update_at h q i) (Contains-In us (update_at h q i) ((relevant.relevant (update_at h q i)).1 (there i (omega arith), inr (inr (low_must i l))))))

    pub relevant_run : (first : ℕ) → first ≡ length (must h q) → IsRelevantRun h q first commits
    relevant_run first is =
        let n = length (must h q) in
        subst (λ m. IsRelevantRun h q m commits) (sym is) (record {
          once = ordered (λ u v. u ≢ v) (in_order d h q legal).once;
          count_within_max = omega (arith, count, filter_shorter (is_among us) (updates_committed_before h q), bounded_updates d h q legal);
          keeps = ordered (λ u v. is_before h v u ≡ false) (in_order d h q legal).keeps;
          first_inside = omega (arith, count, firsts.0);
          musts =
              ap (λ vs. map (nth vs) (range_with_len 0 n)) relevant.in_order
              ∙ (map_agree (nth (filter (is_among us) (updates_committed_before h q))) (update_at h q) (range_with_len 0 n) (λ i j. firsts.1 i (each_at (λ i. i < n) (range_with_len 0 n) i (range_below 0 n n (omega arith)) j))
              ∙ must_positions d h q legal n refl);
        })
