-- A path back from the sink along steps on which labels fall, and the steps that are left to try.
use Rattle.std.proofs.Common.{◌≡◌, ℕ, zero, suc, ◌+◌, ◌-◌, ◌<◌, ◌≤◌, List, [], ◌∷◌, ◌++◌, length, get_or, set, reverse, refl, sym, ap, subst, arith}
use Rattle.std.proofs.lemmas.List.{length_push, reverse-append, length-reverse}
use Rattle.esr_flow.specs.Types.{Arc, ResidualArc, Forward, Backward}
use Rattle.esr_cert.specs.ResidualArcs.{arc_of, start, opposite}
use Rattle.esr_flow.specs.Residual.{finish, IsResidual, IsPath}
use Rattle.esr_cert.specs.Network.{Network, IsNetwork}
use Rattle.esr_cert.specs.declared.adjacency.Span.{Span}
use Rattle.esr_cert.specs.Adjacency.{span_at}
use Rattle.esr_flow.specs.Search.{label_at, Guides, IsGuided}
use Rattle.esr_flow.proofs.Labels.{label_bound}

pub opposite_arc : (s : ResidualArc) → arc_of (opposite s) ≡ arc_of s
opposite_arc (Forward i) = refl
opposite_arc (Backward i) = refl

pub opposite_start : (arcs : List Arc) (s : ResidualArc) → start arcs (opposite s) ≡ finish arcs s
opposite_start arcs (Forward i) = refl
opposite_start arcs (Backward i) = refl

pub opposite_finish : (arcs : List Arc) (s : ResidualArc) → finish arcs (opposite s) ≡ start arcs s
opposite_finish arcs (Forward i) = refl
opposite_finish arcs (Backward i) = refl

-- the steps so far, the last first, lead from a node to the sink, and are no more than its label
pub record Walk (net : Network) (flow labels : List ℕ) (path : List ResidualArc) (at : ℕ) : Type 0 where
  pub is_path : IsPath net.arcs flow at (reverse path) net.sink
  pub steps : length path ≤ label_at labels at
  pub node : at < net.node_count

pub start_in : (net : Network) → IsNetwork net → (s : ResidualArc) → arc_of s < length net.arcs → start net.arcs s < net.node_count
start_in net ok (Forward i) k = (ok.ends i k).0
start_in net ok (Backward i) k = (ok.ends i k).1

pub end_in : (net : Network) → IsNetwork net → (s : ResidualArc) → arc_of s < length net.arcs → finish net.arcs s < net.node_count
end_in net ok (Forward i) k = (ok.ends i k).1
end_in net ok (Backward i) k = (ok.ends i k).0

module _ (net : Network) (ok : IsNetwork net) (flow labels : List ℕ) where
  pub walk_push : (path : List ResidualArc) (at : ℕ) (s : ResidualArc) → Walk net flow labels path at → finish net.arcs s ≡ at → IsResidual net.arcs flow s → label_at labels (finish net.arcs s) < label_at labels (start net.arcs s) → Walk net flow labels (path ++ s ∷ []) (start net.arcs s)
  walk_push path at s w e r l = record {
    is_path = subst (λ p. IsPath net.arcs flow (start net.arcs s) p net.sink) (sym (reverse-append path (s ∷ [])))
        (refl, r, subst (λ n. IsPath net.arcs flow n (reverse path) net.sink) (sym e) w.is_path);
    steps = omega (arith, length_push path s, w.steps, ap (label_at labels) e);
    node = start_in net ok s r.0;
  }

  from_last : (path : List ResidualArc) (at : ℕ) (s : ResidualArc) → Walk net flow labels (path ++ s ∷ []) at → IsPath net.arcs flow at (s ∷ reverse path) net.sink
  from_last path at s w = subst (λ p. IsPath net.arcs flow at p net.sink) (reverse-append path (s ∷ [])) w.is_path

  pub walk_pop : (path : List ResidualArc) (at : ℕ) (s : ResidualArc) → Guides net flow labels → Walk net flow labels (path ++ s ∷ []) at → Walk net flow labels path (finish net.arcs s)
  walk_pop path at s g w =
      let opposite_has_residual : IsPath net.arcs flow at (s ∷ reverse path) net.sink = from_last path at s w in
      record {
        is_path = opposite_has_residual.2;
        steps = omega (arith, length_push path s, w.steps, g.falls s opposite_has_residual.1, ap (label_at labels) opposite_has_residual.0);
        node = end_in net ok s opposite_has_residual.1.0;
      }

  pub popped_in : (path : List ResidualArc) (at : ℕ) (s : ResidualArc) → Walk net flow labels (path ++ s ∷ []) at → arc_of s < length net.arcs
  popped_in path at s w = (from_last path at s w).1.0

  pub walk_end : (path : List ResidualArc) (at : ℕ) → Guides net flow labels → at ≡ net.source → Walk net flow labels path at → IsGuided net flow labels (reverse path)
  walk_end path at g e w =
      let at_start : label_at labels at ≡ label_at labels net.source = ap (label_at labels) e in
      record {
        is_shortest_path = record {
          is_path = subst (λ n. IsPath net.arcs flow n (reverse path) net.sink) e w.is_path;
          is_shortest = λ other p. omega (arith, w.steps, at_start, length-reverse path, g.at_sink, label_bound net.arcs flow (label_at labels) g.falls other net.source net.sink p);
        };
        steps = omega (arith, w.steps, at_start, length-reverse path);
      }

-- how many entries of the spans the pointers have not passed
abbrev pub untried : List Span → List ℕ → ℕ
untried [] next = 0
untried (span ∷ spans) [] = 0
untried (span ∷ spans) (n ∷ next) = ((span.end - span.begin) - n) + untried spans next

pub untried_less : (spans : List Span) (next : List ℕ) (v i : ℕ) → v < length spans → v < length next → get_or next v 0 ≤ i → i < (span_at spans v).end - (span_at spans v).begin → suc (untried spans (set next v (i + 1))) ≤ untried spans next
untried_less [] next v i a b m l = absurd (omega arith)
untried_less (span ∷ spans) [] v i a b m l = absurd (omega arith)
untried_less (span ∷ spans) (n ∷ next) zero i a b m l = omega arith
untried_less (span ∷ spans) (n ∷ next) (suc v) i a b m l = omega (arith, untried_less spans next v i (omega arith) (omega arith) m l)

pub untried_same : (spans : List Span) (next : List ℕ) (v i : ℕ) → v < length next → get_or next v 0 ≤ i → untried spans (set next v i) ≤ untried spans next
untried_same [] next v i b m = omega arith
untried_same (span ∷ spans) [] v i b m = absurd (omega arith)
untried_same (span ∷ spans) (n ∷ next) zero i b m = omega arith
untried_same (span ∷ spans) (n ∷ next) (suc v) i b m = omega (arith, untried_same spans next v i (omega arith) m)
