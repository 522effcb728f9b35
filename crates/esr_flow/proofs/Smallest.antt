-- If the source does not reach the sink, the updates that it reaches are the smallest set of least cost, which is the
-- worth.
use Rattle.std.proofs.Common.{◌≡◌, ℕ, zero, suc, ◌+◌, ◌<◌, ◌≤◌, Bool, true, false, cond, eqb, List, [], ◌∷◌, ◌++◌, length, get_or, sum_by, Some, None, refl, sym, ap, ◌∙◌, inl, inr, arith, lt-ltb, le-ltb, eq-eqb, ne_eqb, length-append, get_or-append-add}
use Rattle.std.proofs.lemmas.Bool.{cases_eq, cases_lt}
use Rattle.std.proofs.lemmas.List.{get_or_append_left, length-map, get_or-map}
use Rattle.std.proofs.lemmas.List.Sums.{sum_by-cons}
use Rattle.esr_cert.specs.declared.range.TheConstants.{MAX_COST}
use Rattle.esr_flow.specs.Types.{Arc, ResidualArc, Forward, Backward}
use Rattle.esr_cert.specs.Problem.{Chain, Problem, update_count, version, chain_cost, cost, greatest, IsSmallestLeastCostSet}
use Rattle.esr_cert.specs.Network.{arc_at, Network, predecessor_arc, must_arc, arcs_of_chains, predecessor_arcs, must_arcs, network}
use Rattle.esr_cert.specs.Flow.{within, amount_at, IsFlow, worth}
use Rattle.esr_cert.specs.Cut.{with_source}
use Rattle.esr_cert.proofs.Sound.{IsClosed, IsProblem, closed_facts, closed_from}
use Rattle.esr_cert.proofs.Least.{with_the_source, without_sink, is_network, limited, cost_across, worth_le_cost}
use Rattle.esr_flow.specs.Residual.{left_of, finish, IsPath}
use Rattle.esr_cert.specs.ResidualArcs.{arc_of, start}
use Rattle.esr_flow.specs.Augmentation.{IsReach}
use Rattle.esr_flow.proofs.Keeps.{Keeps, strong, keeps_from, keeps_path}

-- an unlimited arc can always be stepped along
follow : (net : Network) (flow : List ℕ) (has : ℕ → Bool) → IsReach net flow has → (i : ℕ) (a : Arc) → i < length net.arcs → arc_at net.arcs i ≡ a → a.capacity ≡ None → has a.from ≡ true → has a.to ≡ true
follow net flow has r i a l e free h =
    let residual : within 1 (left_of (arc_at net.arcs i).capacity (amount_at flow i)) ≡ true = ap (λ b. within 1 (left_of b.capacity (amount_at flow i))) e ∙ ap (λ o. within 1 (left_of o (amount_at flow i))) free in
    ap has (sym (ap (λ b. b.to) e)) ∙ r.closed (Forward i) (l, residual) (ap has (ap (λ b. b.from) e) ∙ h)

module _ (p : Problem) (ok : IsProblem p) (flow : List ℕ) (has : ℕ → Bool) where
  abbrev count : ℕ
  count = update_count p

  back_place : (k : ℕ) (q : ℕ × ℕ) → k < length p.before → get_or p.before k q ≡ q → (i : ℕ) × (i < length (network p).arcs) × (arc_at (network p).arcs i ≡ record { from = q.1; to = q.0; capacity = None })
  back_place k q l e =
      let none : Arc = record { from = 0; to = 0; capacity = Some 0 } in
      let m : length (predecessor_arcs p) ≡ length p.before = length-map p.before predecessor_arc in
      let in_backs : get_or (predecessor_arcs p) k none ≡ record { from = q.1; to = q.0; capacity = None } =
      get_or-map predecessor_arc p.before k q none l ∙ ap predecessor_arc e in
      let in_both : get_or (arcs_of_chains p ++ predecessor_arcs p) (length (arcs_of_chains p) + k) none ≡ get_or (predecessor_arcs p) k none = get_or-append-add (arcs_of_chains p) (predecessor_arcs p) k none in
      let update_count : length (arcs_of_chains p ++ predecessor_arcs p) ≡ length (arcs_of_chains p) + length (predecessor_arcs p) = length-append (arcs_of_chains p) (predecessor_arcs p) in
      let all : get_or (arcs_of_chains p ++ predecessor_arcs p ++ must_arcs p) (length (arcs_of_chains p) + k) none ≡ get_or (arcs_of_chains p ++ predecessor_arcs p) (length (arcs_of_chains p) + k) none =
      get_or_append_left (arcs_of_chains p ++ predecessor_arcs p) (must_arcs p) none (length (arcs_of_chains p) + k) (omega arith) in
      (length (arcs_of_chains p) + k, omega (arith, length-append (arcs_of_chains p ++ predecessor_arcs p) (must_arcs p)), all ∙ in_both ∙ in_backs)

  must_place : (k u : ℕ) → k < length p.must → get_or p.must k u ≡ u → (i : ℕ) × (i < length (network p).arcs) × (arc_at (network p).arcs i ≡ record { from = count; to = u; capacity = None })
  must_place k u l e =
      let none : Arc = record { from = 0; to = 0; capacity = Some 0 } in
      let m : length (must_arcs p) ≡ length p.must = length-map p.must (must_arc count) in
      let in_musts : get_or (must_arcs p) k none ≡ record { from = count; to = u; capacity = None } =
      get_or-map (must_arc count) p.must k u none l ∙ ap (must_arc count) e in (
        length (arcs_of_chains p ++ predecessor_arcs p) + k,
        omega (arith, length-append (arcs_of_chains p ++ predecessor_arcs p) (must_arcs p)),
        get_or-append-add (arcs_of_chains p ++ predecessor_arcs p) (must_arcs p) k none ∙ in_musts,
      )

  pub reach_closed : IsReach (network p) flow has → IsClosed p has
  reach_closed r = record {
    before = λ u v c h.
        let i : (i : ℕ) × (i < length (network p).arcs) × (arc_at (network p).arcs i ≡ record { from = v; to = u; capacity = None }) = back_place c.0 (u, v) c.1 c.2 in
        follow (network p) flow has r i.0 (record { from = v; to = u; capacity = None }) i.1 i.2 refl h;
    must = λ u c.
        let i : (i : ℕ) × (i < length (network p).arcs) × (arc_at (network p).arcs i ≡ record { from = count; to = u; capacity = None }) = must_place c.0 u c.1 c.2 in
        follow (network p) flow has r i.0 (record { from = count; to = u; capacity = None }) i.1 i.2 refl r.source;
  }

  -- among the nodes, the reached ones are the reached updates and the source
  same_nodes : IsReach (network p) flow has → has (count + 1) ≡ false → (v : ℕ) → v < count + 2 → with_source count has v ≡ has v
  same_nodes r s v l =
      elim (cases_lt v count) [
        | inl m ↦ ap (λ b. cond b (has v) (eqb v count)) (lt-ltb v count m)
        | inr m ↦
            let far : with_source count has v ≡ eqb v count = ap (λ b. cond b (has v) (eqb v count)) (le-ltb v count m) in
            elim (cases_eq v count) [
              | inl e ↦ far ∙ eq-eqb v count e ∙ sym (ap has e ∙ r.source)
              | inr ne ↦ far ∙ ne_eqb v count ne ∙ sym (ap has (let e : v ≡ count + 1 = omega arith in e) ∙ s)
            ]
      ]

  keeps_nodes : IsReach (network p) flow has → has (count + 1) ≡ false → Keeps (network p) flow (with_source count has)
  keeps_nodes r s step res h =
      let ends : (start (network p).arcs step < count + 2) × (finish (network p).arcs step < count + 2) = both step res.0 in
      same_nodes r s (finish (network p).arcs step) ends.1 ∙ r.closed step res (sym (same_nodes r s (start (network p).arcs step) ends.0) ∙ h)
    where
      both : (step : ResidualArc) → arc_of step < length (network p).arcs → (start (network p).arcs step < count + 2) × (finish (network p).arcs step < count + 2)
      both (Forward i) l = (is_network p ok).ends i l
      both (Backward i) l = let e : ((arc_at (network p).arcs i).from < count + 2) × ((arc_at (network p).arcs i).to < count + 2) = (is_network p ok).ends i l in (e.1, e.0)

  -- strong duality
  pub reach_cost : IsFlow (network p) flow → IsReach (network p) flow has → has (count + 1) ≡ false → worth (network p) flow ≡ cost p has
  reach_cost f r s =
      strong (network p) (is_network p ok) flow f (with_source count has) (with_the_source count has) (without_sink count has) (keeps_nodes r s)
      ∙ cost_across p ok has (reach_closed r)

  inside : (other : ℕ → Bool) → IsFlow (network p) flow → IsReach (network p) flow has → has (count + 1) ≡ false → IsClosed p other → cost p other ≤ cost p has → (u : ℕ) → u < count → has u ≡ true → other u ≡ true
  inside other f r s c l u m h =
      let keeps : Keeps (network p) flow (with_source count other) =
      keeps_from (network p) (is_network p ok) flow f (with_source count other) (with_the_source count other) (without_sink count other) (limited p ok other c)
      (omega (arith, cost_across p ok other c, reach_cost f r s)) in
      let path : (path : List ResidualArc) × IsPath (network p).arcs flow count path u = r.only_reachable u h in
      let at : with_source count other u ≡ true = keeps_path (network p) (is_network p ok) flow f (with_source count other) keeps path.0 count u path.1 (with_the_source count other) in
      sym (ap (λ b. cond b (other u) (eqb u count)) (lt-ltb u count m)) ∙ at

  pub smallest_least : IsFlow (network p) flow → IsReach (network p) flow has → has (count + 1) ≡ false → IsSmallestLeastCostSet p has
  smallest_least f r s = record {
    closed = closed_from p has (reach_closed r);
    least = λ other c. omega (arith, reach_cost f r s, worth_le_cost p ok other flow f c);
    smallest = λ other c l u m h. inside other f r s (closed_facts p other c) l u m h;
  }

-- the worth is within the limit
greatest_at : (costs : List ℕ) (i : ℕ) → get_or costs i 0 ≤ greatest costs
greatest_at [] i = omega arith
greatest_at (c ∷ costs) zero = omega arith
greatest_at (c ∷ costs) (suc i) = omega (arith, greatest_at costs i)

costs_at_most : (has : ℕ → Bool) (chains : List Chain) → sum_by (chain_cost has) chains ≤ sum_by (λ chain. greatest chain.costs) chains
costs_at_most has [] = omega arith
costs_at_most has (c ∷ chains) =
    omega (
      arith,
      sum_by-cons (chain_cost has) c chains,
      sum_by-cons (λ chain. greatest chain.costs) c chains,
      greatest_at c.costs (version has c.writers),
      costs_at_most has chains,
    )

pub worth_small : (p : Problem) → IsProblem p → (flow : List ℕ) → IsFlow (network p) flow → worth (network p) flow ≤ MAX_COST
worth_small p ok flow f =
    let all : IsClosed p (λ u. true) = record { before = λ u v c h. refl; must = λ u c. refl } in
    omega (arith, worth_le_cost p ok (λ u. true) flow f (closed_from p (λ u. true) all), costs_at_most (λ u. true) p.chains, ok.small)
