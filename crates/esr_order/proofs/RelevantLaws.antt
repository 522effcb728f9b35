-- The relevant updates of a query are closed downward, and contain all writers of the items that it read and all updates
-- that it must see.
use Rattle.std.proofs.Common.{◌≡◌, ◌↔◌, ℕ, ◌<◌, Bool, true, false, ◌&&◌, List, [], ◌∷◌, length, refl, sym, ◌∙◌, ap, subst, arith, inl, inr, ⊎_elim, AllPairs, Contains, filter, map, cond}
use Rattle.std.specs.List.{range_with_len}
use Rattle.std.proofs.lemmas.Bool.{true≢false, cases_order, and_parts}
use Rattle.esr_history.specs.Machine.{DistanceFunction, Schedule, IsLegal}
use Rattle.esr_history.specs.Operations.{Operation, operations}
use Rattle.esr_history.specs.Serial.{is_before}
use Rattle.esr_history.specs.Queries.{updates_committed_before, must, reads_by}
use Rattle.esr_history.proofs.Membership.{In, In-Contains, Contains-In, any-from_In, any-from_number, In-from_any, each_at, All-from_pairs}
use Rattle.esr_order.specs.Placements.{is_among, IsClosed}
use Rattle.esr_order.specs.Chains.{update_at}
use Rattle.esr_order.specs.Orders.{IsClosedOn}
use Rattle.esr_order.specs.Relevant.{has_written, IsRelevant, AreRelevant}
use Rattle.esr_order.proofs.ConflictOrder.{in_order}
use Rattle.esr_order.proofs.Early.{must_positions}
use Rattle.esr_order.proofs.Complete.{range_below, in_range}
use Rattle.esr_order.proofs.Batches.{not_before_itself}
use Rattle.esr_order.proofs.Lists.{in_map, of_map, at_place}

module _ (d : DistanceFunction) (h : Schedule) (q : ℕ) (legal : IsLegal d h) where
  keeps : AllPairs (λ u v. is_before h v u ≡ false) (updates_committed_before h q)
  keeps = All-from_pairs (λ u v. is_before h v u ≡ false) (updates_committed_before h q) (in_order d h q legal).keeps

  -- a predecessor of an update that must be seen must be seen
  pub must_down : (u v : ℕ) → Contains (updates_committed_before h q) u → is_before h u v ≡ true → Contains (must h q) v → Contains (must h q) u
  must_down u v cu b m =
      let n : ℕ = length (must h q) in
      let musts : map (update_at h q) (range_with_len 0 n) ≡ must h q = must_positions d h q legal n refl in
      let w = of_map (update_at h q) (range_with_len 0 n) v (subst (In v) (sym musts) (Contains-In (must h q) v m)) in
      let low : w.0 < n = each_at (λ i. i < n) (range_with_len 0 n) w.0 (range_below 0 n n (omega arith)) w.1 in
      let p = at_place (updates_committed_before h q) u (Contains-In (updates_committed_before h q) u cu) in
      let before : is_before h (update_at h q p.0) (update_at h q w.0) ≡ true = ap (λ z. is_before h z (update_at h q w.0)) p.2 ∙ (ap (is_before h u) w.2 ∙ b) in
      let up : p.0 < n =
      ⊎_elim
      (λ e. absurd (not_before_itself (operations h) (update_at h q w.0) (subst (λ k. is_before h (update_at h q k) (update_at h q w.0) ≡ true) e before)))
      (λ o. ⊎_elim (λ lt. omega (arith, lt, low)) (λ gt. absurd (true≢false (sym before ∙ keeps w.0 p.0 0 gt p.1))) o)
      (cases_order p.0 w.0) in
      In-Contains (must h q) u (subst (In u) musts (subst (λ z. In z (map (update_at h q) (range_with_len 0 n))) p.2 (in_map (update_at h q) (range_with_len 0 n) p.0 (in_range 0 n p.0 (omega arith) (omega arith)))))

  -- a predecessor of a relevant update is relevant
  pub relevant_back : (u v : ℕ) → Contains (updates_committed_before h q) u → is_before h u v ≡ true → Contains (updates_committed_before h q) v → IsRelevant h q v → IsRelevant h q u
  relevant_back u v cu b cv n =
      elim n [
        | inl wrote ↦ inr (inl ([], v, cv, wrote, b))
        | inr m ↦ elim m [
          | inl r ↦ inr (inl (v ∷ r.0, r.1, r.2, r.3, (cv, b, r.4)))
          | inr must_see ↦ inr (inr (must_down u v cu b must_see))
        ]
      ]

  module _ (us : List ℕ) (relevant : AreRelevant h q us) where
    pub relevant_down : (u v : ℕ) → Contains (updates_committed_before h q) u → is_before h u v ≡ true → Contains us v → Contains us u
    relevant_down u v cu b cv = let n = (relevant.relevant v).0 cv in (relevant.relevant u).1 (cu, relevant_back u v cu b n.0 n.1)

    pub relevant_updates : (u : ℕ) → Contains us u → Contains (updates_committed_before h q) u
    relevant_updates u c = ((relevant.relevant u).0 c).0

    among : (u : ℕ) → Contains us u → is_among us u ≡ true
    among u c = any-from_number us u (Contains-In us u c)

    of_among : (u : ℕ) → is_among us u ≡ true → Contains us u
    of_among u h = In-Contains us u (In-from_any us u h)

    -- the same sets are closed on them and on all updates of the query
    pub relevant_closed : (S : ℕ → Bool) → IsClosedOn h q us (λ u. is_among us u && S u) ↔ IsClosed h q (λ u. is_among us u && S u)
    relevant_closed S = (
      (λ c. record {
        downward = λ u v cu cv b t.
            let p = and_parts (is_among us v) (S v) t in
            c.downward u v (relevant_down u v cu b (of_among v p.0)) (of_among v p.0) b t;
        holds_must = c.holds_must;
      }),
      (λ c. record {
        downward = λ u v cu cv b t. c.downward u v (relevant_updates u cu) (relevant_updates v cv) b t;
        holds_must = c.holds_must;
      }),
    )

    -- they include all writers of the items that were read
    pub relevant_writers : (o : Operation) → In o (reads_by h q) → filter (has_written h o.item) us ≡ filter (has_written h o.item) (updates_committed_before h q)
    relevant_writers o i = ap (filter (has_written h o.item)) relevant.in_order ∙ twice (updates_committed_before h q) (λ u j. In-Contains (updates_committed_before h q) u j)
      where
        kept : (u : ℕ) → Contains (updates_committed_before h q) u → has_written h o.item u ≡ true → is_among us u ≡ true
        kept u cu wrote = among u ((relevant.relevant u).1 (cu, inl (any-from_In (λ (o : Operation). has_written h o.item u) (reads_by h q) o i wrote)))

        twice : (vs : List ℕ) → ((u : ℕ) → In u vs → Contains (updates_committed_before h q) u) → filter (has_written h o.item) (filter (is_among us) vs) ≡ filter (has_written h o.item) vs
        twice [] inside = refl
        twice (v ∷ vs) inside = at (is_among us v) refl (has_written h o.item v) refl (twice vs (λ u j. inside u (inr j)))
          where
            at : (a : Bool) → is_among us v ≡ a → (b : Bool) → has_written h o.item v ≡ b → filter (has_written h o.item) (filter (is_among us) vs) ≡ filter (has_written h o.item) vs
                → filter (has_written h o.item) (cond a (v ∷ filter (is_among us) vs) (filter (is_among us) vs)) ≡ cond b (v ∷ filter (has_written h o.item) vs) (filter (has_written h o.item) vs)
            at true is b wrote rest = ap (λ c. cond c (v ∷ filter (has_written h o.item) (filter (is_among us) vs)) (filter (has_written h o.item) (filter (is_among us) vs))) wrote ∙ ap (λ l. cond b (v ∷ l) l) rest
            at false is true wrote rest = absurd (true≢false (sym (kept v (inside v (inl refl)) wrote) ∙ is))
            at false is false wrote rest = rest
