-- From the last visit back to the source, and the start of a search.
use Rattle.std.proofs.Common.{◌≡◌, ℕ, zero, suc, ◌+◌, ◌-◌, ◌<◌, true, false, List, [], ◌∷◌, ◌++◌, length, set, reverse, replicate, refl, sym, ◌∙◌, subst, inl, inr, arith, true≢false, length-set, get_or-set_other, get_or-set_same}
use Rattle.std.proofs.lemmas.Bool.{cases_eq}
use Rattle.std.proofs.lemmas.List.{length_push, reverse-append, length-replicate}
use Rattle.esr_flow.specs.Types.{ResidualArc, Forward}
use Rattle.esr_flow.specs.Residual.{IsPath}
use Rattle.esr_cert.specs.Network.{Network, IsNetwork}
use Rattle.esr_flow.specs.Search.{visit_at, is_marked, unmarked, IsReached, Searched, FoundSink, Visit}
use Rattle.esr_flow.proofs.SearchLaws.{start_search, unmarked_mark}

-- the steps so far, the last first, lead from the node of a visit to the sink
pub record Back (net : Network) (flow : List ℕ) (visits : List Visit) (path : List ResidualArc) (at : ℕ) : Type 0 where
  pub in_visits : at < length visits
  pub is_path : IsPath net.arcs flow (visit_at visits at).node (reverse path) net.sink
  pub steps : length path + (visit_at visits at).level ≡ (visit_at visits (length visits - 1)).level

module _ (net : Network) (flow : List ℕ) (visits : List Visit) (f : FoundSink net flow visits) where
  pub back_more : (path : List ResidualArc) (at : ℕ) → 0 < at → Back net flow visits path at → Back net flow visits (path ++ (visit_at visits at).step ∷ []) (visit_at visits at).parent
  back_more path at l b =
      let c : IsReached net.arcs flow visits at = f.searched.is_reached at l b.in_visits in
      record {
        in_visits = omega (arith, c.earlier, b.in_visits);
        is_path = subst (λ p. IsPath net.arcs flow (visit_at visits (visit_at visits at).parent).node p net.sink) (sym (reverse-append path ((visit_at visits at).step ∷ [])))
            (c.begins, c.residual, subst (λ n. IsPath net.arcs flow n (reverse path) net.sink) (sym c.ends) b.is_path);
        steps = omega (arith, length_push path (visit_at visits at).step, c.next_level, b.steps);
      }

pub none_marked : (n v : ℕ) → is_marked (replicate n false) v ≡ false
none_marked zero v = refl
none_marked (suc n) zero = refl
none_marked (suc n) (suc v) = none_marked n v

all_unmarked : (n : ℕ) → unmarked (replicate n false) ≡ n
all_unmarked zero = refl
all_unmarked (suc n) = omega (arith, all_unmarked n)

pub begin : (net : Network) (flow : List ℕ) → IsNetwork net → Searched net flow (record { node = net.source; level = 0; step = Forward 0; parent = 0 } ∷ []) (set (replicate net.node_count false) net.source true) 0
begin net flow ok =
    start_search net flow (set (replicate net.node_count false) net.source true) (record { node = net.source; level = 0; step = Forward 0; parent = 0 } ∷ []) ok.source_is_node
    (length-set (replicate net.node_count false) net.source true ∙ length-replicate net.node_count false)
    (omega (arith, unmarked_mark (replicate net.node_count false) net.source in_list (none_marked net.node_count net.source), all_unmarked net.node_count))
    (λ v t. elim (cases_eq v net.source) [
      | inl e ↦ e
      | inr ne ↦ absurd (true≢false (sym t ∙ get_or-set_other (replicate net.node_count false) net.source v true false ne ∙ none_marked net.node_count v))
    ])
    (get_or-set_same (replicate net.node_count false) net.source true false in_list)
    refl
  where
    in_list : net.source < length (replicate net.node_count false)
    in_list = omega (arith, ok.source_is_node, length-replicate net.node_count false)

pub sink_unmarked : (net : Network) → IsNetwork net → is_marked (set (replicate net.node_count false) net.source true) net.sink ≡ false
sink_unmarked net ok = get_or-set_other (replicate net.node_count false) net.source net.sink true false (λ e. ok.source_is_not_sink (sym e)) ∙ none_marked net.node_count net.sink
