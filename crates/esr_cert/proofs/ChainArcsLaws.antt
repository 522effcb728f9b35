-- The indices of each chain's arcs among those of a problem's network, and their ends.
use Rattle.std.proofs.Common.{◌≡◌, ℕ, zero, suc, Some, ◌+◌, ◌-◌, ◌<◌, ◌≤◌, true, List, [], ◌∷◌, ◌++◌, length, get_or, map, refl, sym, ap, ◌∙◌, subst, arith}
use Rattle.std.proofs.lemmas.List.{length-map, get_or-map}
use Rattle.esr_cert.specs.declared.problem.Chain as code
use Rattle.esr_cert.specs.Problem.{Chain, Problem, update_count, is_well_formed}
use Rattle.esr_cert.specs.Network.{arc_at, arcs_of_chain, network, Arc}
use Rattle.esr_cert.specs.ChainStarts.{chain_starts_from}
use Rattle.esr_cert.specs.ChainArcs.{HasChainArcs, HaveChainArcs}
use Rattle.esr_cert.specs.Views.{chain_view}
use Rattle.esr_cert.proofs.Sound.{facts, IsProblem}
use Rattle.esr_cert.proofs.ArcsLaws.{arcs_long, arc_in_chain, link_is}

-- the beginning of the first chain
pub starts_first : (n : ℕ) (chains : List Chain) → get_or (chain_starts_from n chains) 0 0 ≡ n
starts_first n [] = refl
starts_first n (chain ∷ chains) = refl

-- a chain begins at the end of the arcs of the one before it
starts_next : (n : ℕ) (chains : List Chain) (k : ℕ) (d : Chain) → k < length chains → get_or (chain_starts_from n chains) (suc k) 0 ≡ get_or (chain_starts_from n chains) k 0 + length (get_or chains k d).costs
starts_next n [] k d l = absurd (omega arith)
starts_next n (chain ∷ chains) zero d l = starts_first (n + length chain.costs) chains
starts_next n (chain ∷ chains) (suc k) d l = starts_next (n + length chain.costs) chains k d (omega arith)

-- no chain begins after the end of the last
starts_below : (n : ℕ) (chains : List Chain) (k : ℕ) → k ≤ length chains → get_or (chain_starts_from n chains) k 0 ≤ get_or (chain_starts_from n chains) (length chains) 0
starts_below n [] zero l = omega arith
starts_below n [] (suc k) l = absurd (omega arith)
starts_below n (chain ∷ chains) zero l = omega (arith, starts_below (n + length chain.costs) chains 0 (omega arith), starts_first (n + length chain.costs) chains)
starts_below n (chain ∷ chains) (suc k) l = starts_below (n + length chain.costs) chains k (omega arith)

-- the arcs of the next of the code's chains begin at the end of those of one
begin_next : (chains : List code.Chain) (k : ℕ) (chain : code.Chain) → k < length chains → chain ≡ get_or chains k chain → get_or (chain_starts_from 0 (map chain_view chains)) k 0 + length chain.costs.items ≡ get_or (chain_starts_from 0 (map chain_view chains)) (k + 1) 0
begin_next chains k chain inside is =
    let next : k + 1 ≡ suc k = omega arith in
    let here : get_or (map chain_view chains) k (chain_view chain) ≡ chain_view chain = get_or-map chain_view chains k chain (chain_view chain) inside ∙ ap chain_view (sym is) in
    omega (arith, starts_next 0 (map chain_view chains) k (chain_view chain) (omega (arith, length-map chains chain_view, inside)), ap (λ (c : Chain). length c.costs) here, ap (λ n. get_or (chain_starts_from 0 (map chain_view chains)) n 0) next)

-- a loop over the chains reaches the next one, whose arcs begin at the end of those before it
module _ {arcs : List Arc} {source : ℕ} (chains : List code.Chain) {k begin : ℕ} {chain : code.Chain} (links : HaveChainArcs arcs source chains) (at : begin ≡ get_or (chain_starts_from 0 (map chain_view chains)) k 0) (inside : k < length chains) (is : chain ≡ get_or chains k chain) where
  pub links_here : HasChainArcs arcs source chain begin
  links_here = subst (HasChainArcs arcs source chain) (sym at) (links k chain inside is)

  pub links_after : (n : ℕ) → n ≡ length chain.costs.items → (begin + n ≡ get_or (chain_starts_from 0 (map chain_view chains)) (k + 1) 0) × (begin + n ≤ length arcs)
  links_after n count = (omega (arith, at, count, begin_next chains k chain inside is), omega (arith, links_here.inside, count))

module _ (p : Problem) (sound : is_well_formed p ≡ true) where
  abbrev starts : List ℕ
  starts = chain_starts_from 0 p.chains

  ok : IsProblem p
  ok = facts p sound

  module _ (chains : List code.Chain) (are : map chain_view chains ≡ p.chains) where
    count_same : length p.chains ≡ length chains
    count_same = omega (arith, ap length are, length-map chains chain_view)

    module _ (k begin : ℕ) (chain : code.Chain) (inside : k < length chains) (is : chain ≡ get_or chains k chain) (at : begin ≡ get_or starts k 0) where
      within_all : k < length p.chains
      within_all = omega (arith, count_same, inside)

      chain_is : get_or p.chains k (chain_view chain) ≡ chain_view chain
      chain_is = ap (λ list. get_or list k (chain_view chain)) (sym are) ∙ (get_or-map chain_view chains k chain (chain_view chain) inside ∙ ap chain_view (sym is))

      whole : length chain.costs.items ≡ length chain.writers.items + 1
      whole = (ok.chains (chain_view chain) (k, within_all, chain_is)).one_more

      -- the arcs of the next begin at the end of those of this one
      pub next_begin : begin + length chain.costs.items ≡ get_or starts (k + 1) 0
      next_begin =
          let next : k + 1 ≡ suc k = omega arith in
          omega (arith, at, starts_next 0 p.chains k (chain_view chain) within_all, ap (λ (c : Chain). length c.costs) chain_is, ap (λ n. get_or starts n 0) next)

      -- its arcs are within those of all chains
      pub inside_all : begin + length chain.costs.items ≤ get_or starts (length p.chains) 0
      inside_all = omega (arith, next_begin, starts_below 0 p.chains (k + 1) (omega (arith, within_all)))

      arc_is : (j : ℕ) → j < length chain.costs.items → arc_at (network p).arcs (begin + j) ≡ arc_at (arcs_of_chain (update_count p) (chain_view chain)) j
      arc_is j m =
          let next : k + 1 ≡ suc k = omega arith in
          let place : begin + j - get_or starts k 0 ≡ j = omega (arith, at) in
          arc_in_chain p ok k (begin + j) (chain_view chain) within_all (omega (arith, at)) (omega (arith, next_begin, ap (λ n. get_or starts n 0) next, m))
          ∙ (ap (λ c. arc_at (arcs_of_chain (update_count p) c) (begin + j - get_or starts k 0)) chain_is ∙ ap (arc_at (arcs_of_chain (update_count p) (chain_view chain))) place)

      link : (j : ℕ) → j < length chain.costs.items → arc_at (network p).arcs (begin + j) ≡ record { from = get_or (update_count p ∷ chain.writers.items) j 0; to = get_or (chain.writers.items ++ (update_count p + 1) ∷ []) j 0; capacity = Some (get_or chain.costs.items j 0) }
      link j m = arc_is j m ∙ link_is (update_count p) (update_count p + 1) chain.writers.items chain.costs.items j whole m

      pub has_links : HasChainArcs (network p).arcs (update_count p) chain begin
      has_links = record {
        whole = whole;
        inside = omega (arith, inside_all, arcs_long p ok);
        from = λ j m. ap (λ (a : Arc). a.from) (link j m);
        to = λ j m. ap (λ (a : Arc). a.to) (link j m);
      }

    -- the links of all of them
    pub have_links : (source : ℕ) → source ≡ update_count p → HaveChainArcs (network p).arcs source chains
    have_links source same k chain inside is =
        subst (λ n. HasChainArcs (network p).arcs n chain (get_or (chain_starts_from 0 (map chain_view chains)) k 0)) (sym same)
        (has_links k (get_or (chain_starts_from 0 (map chain_view chains)) k 0) chain inside is (ap (λ list. get_or (chain_starts_from 0 list) k 0) are))
