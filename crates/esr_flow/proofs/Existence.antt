-- Each problem has a certificate: augmentations along shortest paths end, since each raises the worth, which is limited,
-- and the last flow and the updates that the source then reaches make a certificate.
use Rattle.std.proofs.Common.{◌≡◌, ℕ, zero, suc, ◌+◌, ◌<◌, ◌≤◌, Bool, true, false, List, [], ◌∷◌, ◌++◌, ◌==◌, length, replicate, take, drop, sum_by, Option, Some, None}
use Rattle.std.proofs.Common.{refl, sym, ap, ◌∙◌, inl, inr, arith, eq-eqb, length-take, length-drop, take-add}
use Rattle.std.specs.List.{concat}
use Rattle.std.proofs.lemmas.Bool.{cases_Bool, and_from}
use Rattle.std.proofs.lemmas.List.Sums.{sum_by-cons}
use Rattle.esr_cert.specs.declared.range.TheConstants.{MAX_COST}
use Rattle.esr_cert.specs.Problem.{Chain, Problem, update_count, in_set, IsSmallestLeastCostSet}
use Rattle.esr_cert.specs.Network.{network}
use Rattle.esr_cert.specs.Flow.{IsFlow, worth}
use Rattle.esr_cert.specs.Certificate.{Certificate, are_rows_matched, Certifies}
use Rattle.esr_cert.proofs.Sound.{IsProblem, facts}
use Rattle.esr_cert.proofs.Least.{is_network}
use Rattle.esr_flow.specs.Types.{ResidualArc}
use Rattle.esr_flow.specs.Residual.{bottleneck, raise}
use Rattle.esr_flow.specs.Augmentation.{IsReach}
use Rattle.esr_flow.specs.Members.{members_below}
use Rattle.esr_flow.specs.Search.{IsShortestPath}
use Rattle.esr_flow.specs.Existence.{EachProblemHasACertificate}
use Rattle.esr_flow.proofs.CertificateLaws.{flow_length, whole, Parts, least_set, certified}
use Rattle.esr_flow.proofs.FlowLaws.{After, augmented, zero_start}
use Rattle.esr_flow.proofs.MaximumLaws.{augments}
use Rattle.esr_flow.proofs.Reachable.{is_reached, reached_is_reach, reached_sink}
use Rattle.esr_flow.proofs.Smallest.{worth_small}
use Rattle.esr_flow.proofs.SolveLaws.{has_limit}

-- ---- a flow from which no path leads to the sink

limit_of : (o : Option ℕ) → (o ≡ None → ⊥) → (x : ℕ) × (o ≡ Some x)
limit_of None h = absurd (h refl)
limit_of (Some x) h = (x, refl)

-- an augmentation raises the worth of a flow from which a path leads to the sink
raised_flow : (p : Problem) → IsProblem p → (flow : List ℕ) → IsFlow (network p) flow → (path : List ResidualArc) → IsShortestPath (network p) flow path
    → (after : List ℕ) × IsFlow (network p) after × (worth (network p) flow < worth (network p) after)
raised_flow p ok flow f path s =
    let x : (x : ℕ) × (bottleneck (network p).arcs flow path ≡ Some x) =
    limit_of (bottleneck (network p).arcs flow path) (has_limit p ok flow path s.is_path) in
    let a : After (network p) flow (raise flow x.0 path) x.0 =
    augmented (network p) (is_network p ok) flow (raise flow x.0 path) f (augments (network p) flow path x.0 s x.1) in
    (raise flow x.0 path, a.is_flow, omega (arith, a.raised, a.positive))

maximum_from : (p : Problem) → IsProblem p → (fuel : ℕ) (flow : List ℕ) → IsFlow (network p) flow → MAX_COST < worth (network p) flow + fuel
    → (last : List ℕ) × IsFlow (network p) last × (is_reached (network p) last (update_count p + 1) ≡ false)
maximum_from p ok zero flow f l = absurd (omega (arith, worth_small p ok flow f))
maximum_from p ok (suc fuel) flow f l =
    elim (cases_Bool (is_reached (network p) flow (update_count p + 1))) [
      | inl t ↦
          let path = reached_sink (network p) flow t in
          let after = raised_flow p ok flow f path.0 path.1 in
          maximum_from p ok fuel after.0 after.1 (omega (arith, l, after.2))
      | inr e ↦ (flow, f, e)
    ]

-- a maximum flow of a problem's network
pub maximum_flow : (p : Problem) → IsProblem p → (flow : List ℕ) × IsFlow (network p) flow × (is_reached (network p) flow (update_count p + 1) ≡ false)
maximum_flow p ok = maximum_from p ok (suc MAX_COST) (replicate (length (network p).arcs) 0) (zero_start (network p)).is_flow (omega arith)

-- ---- its certificate

-- amounts in rows, one for each chain
abbrev chain_rows : List Chain → List ℕ → List (List ℕ)
chain_rows [] flow = []
chain_rows (c ∷ chains) flow = take (length c.costs) flow ∷ chain_rows chains (drop (length c.costs) flow)

rows_match : (chains : List Chain) (flow : List ℕ) → sum_by (λ (c : Chain). length c.costs) chains ≤ length flow → are_rows_matched chains (chain_rows chains flow) ≡ true
rows_match [] flow l = refl
rows_match (c ∷ chains) flow l =
    let total : sum_by (λ (c : Chain). length c.costs) (c ∷ chains) ≡ length c.costs + sum_by (λ (c : Chain). length c.costs) chains = sum_by-cons (λ (c : Chain). length c.costs) c chains in
    and_from (length (take (length c.costs) flow) == length c.costs) (are_rows_matched chains (chain_rows chains (drop (length c.costs) flow)))
    (eq-eqb _ _ (omega (arith, length-take (length c.costs) flow)))
    (rows_match chains (drop (length c.costs) flow) (omega (arith, length-drop (length c.costs) flow)))

rows_joined : (chains : List Chain) (flow : List ℕ) → concat (chain_rows chains flow) ≡ take (sum_by (λ (c : Chain). length c.costs) chains) flow
rows_joined [] flow = refl
rows_joined (c ∷ chains) flow =
    ap (λ xs. take (length c.costs) flow ++ xs) (rows_joined chains (drop (length c.costs) flow))
    ∙ sym (take-add (length c.costs) (sum_by (λ (c : Chain). length c.costs) chains) flow)
    ∙ ap (λ n. take n flow) (sym (sum_by-cons (λ (c : Chain). length c.costs) c chains))

-- how many costs a problem has, and how many costs and pairs
abbrev costs_of : Problem → ℕ
costs_of p = sum_by (λ (c : Chain). length c.costs) p.chains

abbrev pairs_end : Problem → ℕ
pairs_end p = costs_of p + length p.before

-- the certificate of a flow and the nodes that the source reaches
abbrev certificate_from : Problem → List ℕ → (ℕ → Bool) → Certificate
certificate_from p flow has = record {
  set = members_below has (update_count p);
  chain_flow = chain_rows p.chains (take (pairs_end p) flow);
  back_flow = drop (costs_of p) (take (pairs_end p) flow);
  must_flow = drop (pairs_end p) flow;
  worth = worth (network p) flow;
  augmentations = None;
}

module _ (p : Problem) (ok : IsProblem p) (flow : List ℕ) (f : IsFlow (network p) flow) where
  all_amounts : length flow ≡ costs_of p + length p.before + length p.must
  all_amounts = flow_length p ok flow f

  parts : Parts p flow (concat (chain_rows p.chains (take (pairs_end p) flow))) (drop (costs_of p) (take (pairs_end p) flow)) (drop (pairs_end p) flow)
  parts = record {
    backs = omega (arith, length-drop (costs_of p) (take (pairs_end p) flow), length-take (pairs_end p) flow, all_amounts);
    musts = omega (arith, length-drop (pairs_end p) flow, all_amounts);
    whole = whole (concat (chain_rows p.chains (take (pairs_end p) flow))) (drop (costs_of p) (take (pairs_end p) flow)) (drop (pairs_end p) flow) flow (costs_of p) (pairs_end p)
        (rows_joined p.chains (take (pairs_end p) flow)) refl refl;
  }

  rows : are_rows_matched p.chains (chain_rows p.chains (take (pairs_end p) flow)) ≡ true
  rows = rows_match p.chains (take (pairs_end p) flow) (omega (arith, length-take (pairs_end p) flow, all_amounts))

  flow_certifies : (has : ℕ → Bool) → IsReach (network p) flow has → has (update_count p + 1) ≡ false → Certifies p (certificate_from p flow has)
  flow_certifies has r s = certified p ok flow f has r s (certificate_from p flow has) refl parts rows refl refl

pub has_certificate : (p : Problem) → IsProblem p → (c : Certificate) × Certifies p c × IsSmallestLeastCostSet p (in_set c.set) × (c.augmentations ≡ None)
has_certificate p ok =
    let m = maximum_flow p ok in
    let has : ℕ → Bool = is_reached (network p) m.0 in
    let r : IsReach (network p) m.0 has = reached_is_reach (network p) (is_network p ok) m.0 in (
      certificate_from p m.0 has,
      flow_certifies p ok m.0 m.1 has r m.2,
      least_set p ok m.0 m.1 has r m.2 (members_below has (update_count p)) refl,
      refl,
    )

pub each_problem_has_a_certificate : EachProblemHasACertificate
each_problem_has_a_certificate p sound = has_certificate p (facts p sound)
