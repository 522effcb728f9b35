-- How the marks of the nodes that the source reaches begin, grow and end.
use Rattle.std.proofs.Common.{◌≡◌, ℕ, ◌<◌, Bool, true, false, List, [], ◌∷◌, ◌++◌, length, set, refl, sym, ap, ◌∙◌, subst, inl, inr, arith, length-set, get_or-set_other, get_or-set_same, Some}
use Rattle.std.proofs.lemmas.Bool.{cases_eq}
use Rattle.esr_cert.specs.Network.{Network, IsNetwork, arc_at}
use Rattle.esr_cert.specs.Flow.{within, amount_at}
use Rattle.esr_cert.specs.ResidualArcs.{arc_of, start}
use Rattle.esr_flow.specs.Types.{Arc, ResidualArc, Forward, Backward}
use Rattle.esr_flow.specs.Residual.{finish, left_of, IsResidual, IsPath}
use Rattle.esr_flow.specs.Search.{is_marked}
use Rattle.esr_flow.specs.Reached.{AreReached, IsKeptOver}
use Rattle.esr_flow.proofs.SearchLaws.{path_append}

finish_in : (net : Network) → IsNetwork net → (s : ResidualArc) → arc_of s < length net.arcs → finish net.arcs s < net.node_count
finish_in net ok (Forward i) k = (ok.ends i k).1
finish_in net ok (Backward i) k = (ok.ends i k).0

module _ (net : Network) (ok : IsNetwork net) (flow : List ℕ) where
  -- and a node to which a residual step leads from a marked one
  pub reached_more : (marks : List Bool) (s : ResidualArc) → AreReached net flow marks → IsResidual net.arcs flow s → is_marked marks (start net.arcs s) ≡ true → AreReached net flow (set marks (finish net.arcs s) true)
  reached_more marks s h res from = record {
    count = length-set marks next true ∙ h.count;
    source = stays net.source h.source;
    reached = λ v m. elim (cases_eq v next) [
      | inl e ↦ let before = h.reached (start net.arcs s) from in
          subst (λ n. (path : List ResidualArc) × IsPath net.arcs flow net.source path n) (sym e) (before.0 ++ s ∷ [], path_append net.arcs flow before.0 net.source (start net.arcs s) s before.1 refl res)
      | inr ne ↦ h.reached v (sym (get_or-set_other marks next v true false ne) ∙ m)
    ];
  }
    where
      next : ℕ
      next = finish net.arcs s

      inside : next < length marks
      inside = omega (arith, finish_in net ok s res.0, h.count)

      stays : (v : ℕ) → is_marked marks v ≡ true → is_marked (set marks next true) v ≡ true
      stays v t = elim (cases_eq v next) [
        | inl e ↦ ap (is_marked (set marks next true)) e ∙ get_or-set_same marks next true false inside
        | inr ne ↦ get_or-set_other marks next v true false ne ∙ t
      ]

module _ (arcs : List Arc) (flow : List ℕ) (marks : List Bool) (i : ℕ) where
  -- both steps over an arc, each for itself
  kept_over : (is_marked marks (arc_at arcs i).from ≡ true → within 1 (left_of (arc_at arcs i).capacity (amount_at flow i)) ≡ true → is_marked marks (arc_at arcs i).to ≡ true)
      → (is_marked marks (arc_at arcs i).to ≡ true → within 1 (Some (amount_at flow i)) ≡ true → is_marked marks (arc_at arcs i).from ≡ true) → IsKeptOver arcs flow marks i
  kept_over on opposite_has_residual (Forward j) e res m = subst (λ k. is_marked marks (arc_at arcs k).to ≡ true) (sym e) (on (subst (λ k. is_marked marks (arc_at arcs k).from ≡ true) e m) (subst (λ k. within 1 (left_of (arc_at arcs k).capacity (amount_at flow k)) ≡ true) e res.1))
  kept_over on opposite_has_residual (Backward j) e res m = subst (λ k. is_marked marks (arc_at arcs k).from ≡ true) (sym e) (opposite_has_residual (subst (λ k. is_marked marks (arc_at arcs k).to ≡ true) e m) (subst (λ k. within 1 (Some (amount_at flow k)) ≡ true) e res.1))

  -- both ends are marked, or none is
  pub kept_equal : is_marked marks (arc_at arcs i).from ≡ is_marked marks (arc_at arcs i).to → IsKeptOver arcs flow marks i
  kept_equal same = kept_over (λ m r. sym same ∙ m) (λ m r. same ∙ m)
