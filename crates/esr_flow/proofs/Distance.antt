-- The distance to the sink in the residual network, cut off at a limit that no path undercuts.
use Rattle.std.proofs.Common.{◌≡◌, ℕ, zero, suc, ◌<◌, ◌≤◌, Bool, true, ◌&&◌, ◌||◌, ◌⊎◌, leb, eqb, List, [], ◌∷◌, length, refl, ap, subst, inl, inr, arith}
use Rattle.std.proofs.Common.{eq-eqb, eqb-true, le-leb, leb-true}
use Rattle.std.proofs.lemmas.Bool.{or_left, or_right, or_cases, and_parts, and_from, lt-leb}
use Rattle.esr_flow.specs.Types.{Arc, ResidualArc, Forward, Backward}
use Rattle.esr_flow.specs.Residual.{Falls, finish, residual_capacity, IsResidual, IsPath}
use Rattle.esr_cert.specs.ResidualArcs.{arc_of, start}
use Rattle.esr_cert.specs.Flow.{within}
use Rattle.esr_cert.specs.Network.{Network, IsNetwork}
use Rattle.esr_flow.proofs.Count.{count_below, count_fewer, first_below, first_le, first_passes, first_least, some_below, some_below_from, some_below_at}
use Rattle.esr_flow.proofs.Labels.{Levels}

module _ (arcs : List Arc) (flow : List ℕ) (sink : ℕ) where
  -- a residual step from v to a node that passes the test
  abbrev leads : (ℕ → Bool) → ℕ → ResidualArc → Bool
  leads test v s = within 1 (residual_capacity arcs flow s) && (eqb (start arcs s) v && test (finish arcs s))

  -- a path of k steps leads from a node to the sink
  abbrev reaches : ℕ → ℕ → Bool
  reaches zero v = eqb v sink
  reaches (suc k) v = some_below (λ i. leads (reaches k) v (Forward i) || leads (reaches k) v (Backward i)) (length arcs)

  path_by : (k v : ℕ) (s : ResidualArc) → arc_of s < length arcs → leads (reaches k) v s ≡ true → ((w : ℕ) → reaches k w ≡ true → (path : List ResidualArc) × (length path ≡ k) × IsPath arcs flow w path sink) → (path : List ResidualArc) × (length path ≡ suc k) × IsPath arcs flow v path sink
  path_by k v s l t ih =
      let p : (within 1 (residual_capacity arcs flow s) ≡ true) × ((eqb (start arcs s) v && reaches k (finish arcs s)) ≡ true) = and_parts _ _ t in
      let q : (eqb (start arcs s) v ≡ true) × (reaches k (finish arcs s) ≡ true) = and_parts _ _ p.1 in
      let rest : (path : List ResidualArc) × (length path ≡ k) × IsPath arcs flow (finish arcs s) path sink = ih (finish arcs s) q.1 in
      (s ∷ rest.0, ap suc rest.1, (eqb-true _ _ q.0, (l, p.0), rest.2))

  path_from : (k v : ℕ) → reaches k v ≡ true → (path : List ResidualArc) × (length path ≡ k) × IsPath arcs flow v path sink
  path_from zero v t = ([], refl, eqb-true v sink t)
  path_from (suc k) v t =
      let found : (i : ℕ) × (i < length arcs) × ((leads (reaches k) v (Forward i) || leads (reaches k) v (Backward i)) ≡ true) = some_below_at _ (length arcs) t in
      elim (or_cases _ _ found.2) [
        | inl h ↦ path_by k v (Forward found.0) found.1 h (path_from k)
        | inr h ↦ path_by k v (Backward found.0) found.1 h (path_from k)
      ]

  reaches_step : (k : ℕ) (s : ResidualArc) → IsResidual arcs flow s → reaches k (finish arcs s) ≡ true → reaches (suc k) (start arcs s) ≡ true
  reaches_step k (Forward i) res t =
      some_below_from _ (length arcs) i res.0 (or_left _ _ (and_from _ _ res.1 (and_from _ _ (eq-eqb _ _ refl) t)))
  reaches_step k (Backward i) res t =
      some_below_from _ (length arcs) i res.0 (or_right _ _ (and_from _ _ res.1 (and_from _ _ (eq-eqb _ _ refl) t)))

  abbrev pub distance : ℕ → ℕ → ℕ
  distance limit v = first_below (λ k. reaches k v) limit

  pub distance_sink : (limit : ℕ) → distance limit sink ≡ 0
  distance_sink limit = omega (arith, first_least (λ k. reaches k sink) limit 0 (eq-eqb sink sink refl))

  pub distance_falls : (limit : ℕ) → Falls arcs flow (distance limit)
  distance_falls limit s res =
      let split : (distance limit (finish arcs s) < limit) ⊎ (limit ≤ distance limit (finish arcs s)) = grind arith in
      let relevant : distance limit (finish arcs s) < limit → distance limit (start arcs s) ≤ suc (distance limit (finish arcs s)) =
      λ l. first_least (λ k. reaches k (start arcs s)) limit (suc (distance limit (finish arcs s)))
      (reaches_step (distance limit (finish arcs s)) s res (first_passes (λ k. reaches k (finish arcs s)) limit l)) in
      elim split [ inl l ↦ relevant l | inr l ↦ omega (arith, first_le (λ k. reaches k (start arcs s)) limit) ]

  pub distance_limit : (limit v : ℕ) → ((path : List ResidualArc) → IsPath arcs flow v path sink → limit ≤ length path) → distance limit v ≡ limit
  distance_limit limit v shortest =
      let split : (distance limit v < limit) ⊎ (limit ≤ distance limit v) = grind arith in
      let upper_bound : distance limit v ≤ limit = first_le (λ k. reaches k v) limit in
      elim split [
        | inl l ↦
            let p : (path : List ResidualArc) × (length path ≡ distance limit v) × IsPath arcs flow v path sink = path_from (distance limit v) v (first_passes (λ k. reaches k v) limit l) in
            absurd (omega (arith, shortest p.0 p.2))
        | inr l ↦ omega arith
      ]

  reaches_along : (path : List ResidualArc) (v : ℕ) → IsPath arcs flow v path sink → reaches (length path) v ≡ true
  reaches_along [] v h = eq-eqb v sink h
  reaches_along (s ∷ path) v h =
      subst (λ n. reaches (suc (length path)) n ≡ true) h.0 (reaches_step (length path) s h.1 (reaches_along path (finish arcs s) h.2))

  -- no path is shorter than the distance
  pub distance_least : (limit : ℕ) (path : List ResidualArc) (v : ℕ) → IsPath arcs flow v path sink → distance limit v ≤ length path
  distance_least limit path v h = first_least (λ k. reaches k v) limit (length path) (reaches_along path v h)

  -- and if it is below the limit, a path is as long as it
  pub distance_path : (limit v : ℕ) → distance limit v < limit
      → (path : List ResidualArc) × (length path ≡ distance limit v) × IsPath arcs flow v path sink
  distance_path limit v l = path_from (distance limit v) v (first_passes (λ k. reaches k v) limit l)

-- a path on which the labels fall has at most as many steps as there are nodes
pub steps_le_nodes : (net : Network) → IsNetwork net → (d : ℕ → ℕ) (k : ℕ) (path : List ResidualArc) → Levels d net.arcs k path → length path ≤ count_below (λ v. leb (d v) k) net.node_count
steps_le_nodes net ok d k [] h = omega arith
steps_le_nodes net ok d k (s ∷ path) h =
    let rest : length path ≤ count_below (λ v. leb (d v) (d (finish net.arcs s))) net.node_count = steps_le_nodes net ok d (d (finish net.arcs s)) path h.3 in
    let more : suc (count_below (λ v. leb (d v) (d (finish net.arcs s))) net.node_count) ≤ count_below (λ v. leb (d v) k) net.node_count =
    count_fewer (λ v. leb (d v) (d (finish net.arcs s))) (λ v. leb (d v) k) net.node_count (start net.arcs s)
    (λ i l t. le-leb (d i) k (omega (arith, leb-true (d i) (d (finish net.arcs s)) t)))
    (in_range s h.2) (lt-leb _ _ (omega arith)) (le-leb _ _ h.0) in
    omega arith
  where
    in_range : (s : ResidualArc) → arc_of s < length net.arcs → start net.arcs s < net.node_count
    in_range (Forward i) l = (ok.ends i l).0
    in_range (Backward i) l = (ok.ends i l).1
