-- The ends of a network's arcs, by the lists of the problem.
use Rattle.std.proofs.Common.{◌≡◌, ℕ, ◌+◌, ◌-◌, ◌<◌, ◌≤◌, Bool, true, List, [], ◌∷◌, length, get_or, map, sym, ap, ◌∙◌, arith}
use Rattle.std.proofs.lemmas.List.{get_or_append_left}
use Rattle.esr_cert.specs.declared.problem.Chain as code
use Rattle.esr_cert.specs.Problem.{Problem, update_count, is_well_formed}
use Rattle.esr_cert.specs.Network.{arc_at, predecessor_arc, network}
use Rattle.esr_cert.specs.ChainStarts.{chain_starts_from}
use Rattle.esr_cert.specs.Views.{chain_view}
use Rattle.esr_cert.proofs.Sound.{facts, IsProblem}
use Rattle.esr_cert.specs.ChainArcs as certs
use Rattle.esr_cert.proofs.ChainArcsLaws as laws
use Rattle.esr_cert.proofs.ArcsLaws.{arcs_long, arc_of_pair, writer_before}
use Rattle.esr_flow.specs.Types.{Arc}
use Rattle.esr_flow.specs.Search.{is_marked}
use Rattle.esr_flow.specs.Reached.{IsKeptOver, HasChainArcs, first_back}
use Rattle.esr_flow.proofs.ReachLaws.{kept_equal}

-- an arc between two writers that are both marked, or both not
pub link_kept : (arcs : List Arc) (flow : List ℕ) (marks : List Bool) (chain : code.Chain) (begin : ℕ) → HasChainArcs arcs chain begin → (j : ℕ) → 0 < j → j < length chain.writers.items
    → is_marked marks (get_or chain.writers.items (j - 1) 0) ≡ is_marked marks (get_or chain.writers.items j 0) → IsKeptOver arcs flow marks (begin + j)
link_kept arcs flow marks chain begin has j some inside same =
    kept_equal arcs flow marks (begin + j) (ap (is_marked marks) (has.from j some inside) ∙ same ∙ sym (ap (is_marked marks) (has.to j some inside)))

module _ (p : Problem) (sound : is_well_formed p ≡ true) where
  abbrev starts : List ℕ
  starts = chain_starts_from 0 p.chains

  ok : IsProblem p
  ok = facts p sound

  -- the arcs that are not of a chain have the last numbers
  pub count_is : length (network p).arcs ≡ first_back p + length p.before + length p.must
  count_is = arcs_long p ok

  -- and begin with those of the pairs
  pub pair_kept : (flow : List ℕ) (marks : List Bool) (i : ℕ) → first_back p ≤ i → i - first_back p < length p.before
      → is_marked marks (get_or p.before (i - first_back p) (0, 0)).1 ≡ is_marked marks (get_or p.before (i - first_back p) (0, 0)).0 → IsKeptOver (network p).arcs flow marks i
  pair_kept flow marks i not_before inside same =
      let is : arc_at (network p).arcs i ≡ predecessor_arc (get_or p.before (i - first_back p) (0, 0)) = arc_of_pair p ok i (0, 0) not_before inside in
      kept_equal (network p).arcs flow marks i (ap (λ (a : Arc). is_marked marks a.from) is ∙ same ∙ sym (ap (λ (a : Arc). is_marked marks a.to) is))

  -- the same, given a list equal to the pairs, and the number of the first pair's arc
  pub pair_kept_by : (flow : List ℕ) (marks : List Bool) (pairs : List (ℕ × ℕ)) → pairs ≡ p.before → (first : ℕ) → first ≡ first_back p → (i : ℕ) → first ≤ i → i - first < length pairs
      → is_marked marks (get_or pairs (i - first) (0, 0)).1 ≡ is_marked marks (get_or pairs (i - first) (0, 0)).0 → IsKeptOver (network p).arcs flow marks i
  pair_kept_by flow marks pairs ps first fs i not_before inside same =
      let at : get_or p.before (i - first_back p) (0, 0) ≡ get_or pairs (i - first) (0, 0) = ap (λ list. get_or list (i - first_back p) (0, 0)) (sym ps) ∙ ap (λ n. get_or pairs (i - n) (0, 0)) (sym fs) in
      pair_kept flow marks i (omega (arith, not_before, fs)) (omega (arith, inside, fs, ap length ps)) (ap (λ (e : ℕ × ℕ). is_marked marks e.1) at ∙ (same ∙ sym (ap (λ (e : ℕ × ℕ). is_marked marks e.0) at)))

  module _ (chains : List code.Chain) (are : map chain_view chains ≡ p.chains) where
    pub has_links : (k begin : ℕ) (chain : code.Chain) → k < length chains → chain ≡ get_or chains k chain → begin ≡ get_or starts k 0 → HasChainArcs (network p).arcs chain begin
    has_links k begin chain inside is at =
        let all : certs.HasChainArcs (network p).arcs (update_count p) chain begin = laws.has_links p sound chains are k begin chain inside is at in
        record {
          inside = all.inside;
          from = λ j some m. all.from j (omega (arith, all.whole, m)) ∙ writer_before (update_count p) chain.writers.items j some;
          to = λ j some m. all.to j (omega (arith, all.whole, m)) ∙ get_or_append_left chain.writers.items ((update_count p + 1) ∷ []) 0 j m;
        }
