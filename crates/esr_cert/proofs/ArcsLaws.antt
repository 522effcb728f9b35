-- The arcs of a problem's network, from the lists of the problem.
use Rattle.std.proofs.Common.{◌≡◌, ℕ, zero, suc, ◌+◌, ◌-◌, ◌<◌, ◌≤◌, List, [], ◌∷◌, ◌++◌, length, length-append, get_or, take, map, flat_map, sum_by, refl, true, inl, inr, sym, ap, ◌∙◌, subst, arith, Some}
use Rattle.std.proofs.lemmas.List.{length-map, get_or-map, get_or_default}
use Rattle.std.proofs.lemmas.Bool.{cases_lt}
use Rattle.std.proofs.lemmas.List.Sums.{sum_by-cons}
use Rattle.esr_cert.specs.declared.problem.Chain as code
use Rattle.esr_cert.specs.Problem.{Chain, Problem, update_count, is_well_formed}
use Rattle.esr_cert.specs.Network.{arc_at, path_arcs, arcs_of_chain, predecessor_arc, must_arc, predecessor_arcs, must_arcs, network, Arc}
use Rattle.esr_cert.specs.ChainStarts.{chain_starts_from, joined, AreChainStarts}
use Rattle.esr_base.specs.declared.numbers.TxnId.{TxnId}
use Rattle.esr_cert.specs.Views.{chain_view, problem_of}
use Rattle.esr_cert.proofs.Sound.{here, there, facts, count_within_max, are_bounded, IsProblem}
use Rattle.esr_cert.proofs.Matched.{AreWhole, links_length}
use Rattle.esr_cert.proofs.ChainStartsLaws.{starts_long, row_ends, in_row, in_backs, in_musts, rows_end}

-- the costs of the code's chains are as many as those of the chains that contracts see
pub costs_count : (chains : List code.Chain) → sum_by (λ (chain : Chain). length chain.costs) (map chain_view chains) ≡ sum_by (λ (chain : code.Chain). length chain.costs.items) chains
costs_count [] = refl
costs_count (one ∷ chains) =
    omega (arith, sum_by-cons (λ (chain : Chain). length chain.costs) (chain_view one) (map chain_view chains), sum_by-cons (λ (chain : code.Chain). length chain.costs.items) one chains, costs_count chains)

-- ---- an arc by its number

joined_links : (n : ℕ) (chains : List Chain) → joined (map (arcs_of_chain n) chains) ≡ flat_map (arcs_of_chain n) chains
joined_links n [] = refl
joined_links n (chain ∷ chains) = ap (λ arcs. arcs_of_chain n chain ++ arcs) (joined_links n chains)

links_start : (n m : ℕ) (chains : List Chain) → AreWhole chains → (k : ℕ) → k ≤ length chains → get_or (chain_starts_from m chains) k 0 ≡ m + length (joined (take k (map (arcs_of_chain n) chains)))
links_start n m [] whole zero l = omega arith
links_start n m [] whole (suc k) l = absurd (omega arith)
links_start n m (chain ∷ chains) whole zero l = omega arith
links_start n m (chain ∷ chains) whole (suc k) l =
    omega (
      arith,
      links_length n (n + 1) chain.writers chain.costs (whole chain (here chain chains)),
      links_start n (m + length chain.costs) chains (λ d at. whole d (there chain d chains at)) k (omega arith),
      length-append (arcs_of_chain n chain) (joined (take k (map (arcs_of_chain n) chains))),
    )

pub links_starts : (p : Problem) → IsProblem p → AreChainStarts (chain_starts_from 0 p.chains) (map (arcs_of_chain (update_count p)) p.chains)
links_starts p ok = record {
  count = omega (arith, starts_long 0 p.chains, length-map p.chains (arcs_of_chain (update_count p)));
  at = λ k l. omega (arith, links_start (update_count p) 0 p.chains (λ chain at. (ok.chains chain at).one_more) k (omega (arith, length-map p.chains (arcs_of_chain (update_count p)))));
  filled = λ k l.
      let inside : k < length p.chains = omega (arith, length-map p.chains (arcs_of_chain (update_count p))) in
      let chain : Chain = get_or p.chains k (record { item = 0; writers = []; costs = [] }) in
      let whole : length chain.costs ≡ length chain.writers + 1 = (ok.chains chain (k, inside, get_or_default p.chains k chain (record { item = 0; writers = []; costs = [] }) inside)).one_more in
      omega (arith, ap length (get_or-map (arcs_of_chain (update_count p)) p.chains k (record { item = 0; writers = []; costs = [] }) [] inside), links_length (update_count p) (update_count p + 1) chain.writers chain.costs whole);
}

abbrev none : Arc
none = record { from = 0; to = 0; capacity = Some 0 }

module _ (p : Problem) (ok : IsProblem p) where
  abbrev rows : List (List Arc)
  rows = map (arcs_of_chain (update_count p)) p.chains

  abbrev chain_starts : List ℕ
  chain_starts = chain_starts_from 0 p.chains

  whole_list : (network p).arcs ≡ joined rows ++ predecessor_arcs p ++ must_arcs p
  whole_list = ap (λ arcs. arcs ++ predecessor_arcs p ++ must_arcs p) (sym (joined_links (update_count p) p.chains))

  rows_long : length rows ≡ length p.chains
  rows_long = length-map p.chains (arcs_of_chain (update_count p))

  same_end : get_or chain_starts (length rows) 0 ≡ get_or chain_starts (length p.chains) 0
  same_end = ap (λ k. get_or chain_starts k 0) rows_long

  pub arcs_long : length (network p).arcs ≡ get_or chain_starts (length p.chains) 0 + length p.before + length p.must
  arcs_long =
      omega (arith, ap length whole_list, length-append (joined rows ++ predecessor_arcs p) (must_arcs p), length-append (joined rows) (predecessor_arcs p), same_end, rows_end chain_starts rows (links_starts p ok), length-map {B = Arc} p.before predecessor_arc, length-map {B = Arc} p.must (must_arc (update_count p)))

  pub arc_in_chain : (k number : ℕ) (d : Chain) → k < length p.chains → get_or chain_starts k 0 ≤ number → number < get_or chain_starts (suc k) 0 → arc_at (network p).arcs number ≡ arc_at (arcs_of_chain (update_count p) (get_or p.chains k d)) (number - get_or chain_starts k 0)
  arc_in_chain k number d l begun before =
      ap (λ arcs. arc_at arcs number) whole_list
      ∙ in_row chain_starts rows (links_starts p ok) none (predecessor_arcs p) (must_arcs p) k number (omega (arith, rows_long)) begun before
      ∙ ap (λ row. arc_at row (number - get_or chain_starts k 0)) (get_or-map (arcs_of_chain (update_count p)) p.chains k d [] l)

  pub arc_of_pair : (number : ℕ) (d : ℕ × ℕ) → get_or chain_starts (length p.chains) 0 ≤ number → number - get_or chain_starts (length p.chains) 0 < length p.before → arc_at (network p).arcs number ≡ predecessor_arc (get_or p.before (number - get_or chain_starts (length p.chains) 0) d)
  arc_of_pair number d not_before inside =
      ap (λ arcs. arc_at arcs number) whole_list
      ∙ in_backs chain_starts rows (links_starts p ok) none (predecessor_arcs p) (must_arcs p) number (omega (arith, same_end)) (omega (arith, same_end, length-map {B = Arc} p.before predecessor_arc))
      ∙ ap (λ n. arc_at (predecessor_arcs p) (number - n)) same_end
      ∙ get_or-map predecessor_arc p.before (number - get_or chain_starts (length p.chains) 0) d none inside

  pub arc_of_must : (number d : ℕ) → number < length (network p).arcs → get_or chain_starts (length p.chains) 0 ≤ number → length p.before ≤ number - get_or chain_starts (length p.chains) 0
      → (number - get_or chain_starts (length p.chains) 0 - length p.before < length p.must) × (arc_at (network p).arcs number ≡ must_arc (update_count p) (get_or p.must (number - get_or chain_starts (length p.chains) 0 - length p.before) d))
  arc_of_must number d inside not_before after =
      let backs : length (predecessor_arcs p) ≡ length p.before = length-map {B = Arc} p.before predecessor_arc in
      let short : number - get_or chain_starts (length p.chains) 0 - length p.before < length p.must = omega (arith, arcs_long) in (
        short,
        ap (λ arcs. arc_at arcs number) whole_list
            ∙ in_musts chain_starts rows (links_starts p ok) none (predecessor_arcs p) (must_arcs p) number (omega (arith, same_end)) (omega (arith, same_end, backs))
            ∙ ap (λ n. arc_at (must_arcs p) (number - n - length (predecessor_arcs p))) same_end ∙ ap (λ n. arc_at (must_arcs p) (number - get_or chain_starts (length p.chains) 0 - n)) backs
            ∙ get_or-map (must_arc (update_count p)) p.must (number - get_or chain_starts (length p.chains) 0 - length p.before) d none short,
      )

-- an arc of a chain, by its place there
pub link_is : (from sink : ℕ) (writers costs : List ℕ) (j : ℕ) → length costs ≡ length writers + 1 → j < length costs → arc_at (path_arcs from sink writers costs) j ≡ record { from = get_or (from ∷ writers) j 0; to = get_or (writers ++ sink ∷ []) j 0; capacity = Some (get_or costs j 0) }
link_is from sink writers [] j e l = absurd (omega arith)
link_is from sink [] (c ∷ costs) zero e l = refl
link_is from sink [] (c ∷ costs) (suc j) e l = absurd (omega arith)
link_is from sink (w ∷ writers) (c ∷ costs) zero e l = refl
link_is from sink (w ∷ writers) (c ∷ costs) (suc j) e l = link_is w sink writers costs j (omega arith) (omega arith)

pub writer_before : (source : ℕ) (writers : List ℕ) (j : ℕ) → 0 < j → get_or (source ∷ writers) j 0 ≡ get_or writers (j - 1) 0
writer_before source writers zero l = absurd (omega arith)
writer_before source writers (suc j) l = ap (λ i. get_or writers i 0) (omega arith)

-- the arcs of a problem's parts, in the code's types
module _ (updates : List TxnId) (before : List (ℕ × ℕ)) (chains : List code.Chain) (must : List ℕ) (sound : is_well_formed (problem_of updates before chains must) ≡ true) (chain_starts : List ℕ) (are : chain_starts ≡ chain_starts_from 0 (map chain_view chains)) where
  abbrev parts : Problem
  parts = problem_of updates before chains must

  ok : IsProblem parts
  ok = facts parts sound

  pub updates_bounded : length updates ≤ 65535
  updates_bounded = omega (arith, count_within_max parts sound, length-map updates (λ t. t.0))

  pub chains_bounded : length chains ≤ 4096
  chains_bounded = omega (arith, (are_bounded parts sound).chains, length-map chains chain_view)

  pub starts_are : AreChainStarts chain_starts (map (arcs_of_chain (update_count parts)) parts.chains)
  starts_are = subst (λ list. AreChainStarts list (map (arcs_of_chain (update_count parts)) parts.chains)) (sym are) (links_starts parts ok)

  pub count_is : length chain_starts ≡ length chains + 1
  count_is = omega (arith, starts_are.count, length-map parts.chains (arcs_of_chain (update_count parts)), length-map chains chain_view)

  abbrev links_end : ℕ
  links_end = get_or chain_starts (length chains) 0

  end_is : links_end ≡ get_or (chain_starts_from 0 parts.chains) (length parts.chains) 0
  end_is = ap (λ list. get_or list (length chains) 0) are ∙ ap (λ n. get_or (chain_starts_from 0 parts.chains) n 0) (sym (length-map chains chain_view))

  size_is : update_count parts ≡ length updates
  size_is = length-map updates (λ t. t.0)

  pub arcs_are : links_end + length before + length must ≡ length (network parts).arcs
  arcs_are = omega (arith, end_is, arcs_long parts ok)

  -- the result of a search for the row of an arc of the chains
  module _ (number k : ℕ) (early : number < links_end) (bound : k < length chain_starts) (begun : get_or chain_starts k 0 ≤ number) (last : k + 1 < length chain_starts → number < get_or chain_starts (k + 1) 0) where
    pub row_in_chains : k < length chains
    row_in_chains =
        elim (cases_lt k (length chains)) [
          | inl l ↦ l
          | inr m ↦
              let is : k ≡ length chains = omega (arith, count_is, bound) in
              absurd (omega (arith, begun, early, ap (λ i. get_or chain_starts i 0) is))
        ]

    next : number < get_or chain_starts (suc k) 0
    next = let one : k + 1 ≡ suc k = omega arith in subst (λ n. number < get_or chain_starts n 0) one (last (omega (arith, count_is, row_in_chains)))

    module _ (chain : code.Chain) (is : chain ≡ get_or chains k chain) where
      chain_is : chain_view chain ≡ get_or parts.chains k (chain_view chain)
      chain_is = ap chain_view is ∙ sym (get_or-map chain_view chains k chain (chain_view chain) row_in_chains)

      pub chain_whole : length chain.costs.items ≡ length chain.writers.items + 1
      chain_whole = (ok.chains (chain_view chain) (k, omega (arith, length-map chains chain_view, row_in_chains), sym chain_is)).one_more

      pub place_in_chain : number - get_or chain_starts k 0 < length chain.costs.items
      place_in_chain =
          let row : get_or (map (arcs_of_chain (update_count parts)) parts.chains) k [] ≡ arcs_of_chain (update_count parts) (chain_view chain) =
          get_or-map (arcs_of_chain (update_count parts)) parts.chains k (chain_view chain) [] (omega (arith, length-map chains chain_view, row_in_chains)) ∙ ap (arcs_of_chain (update_count parts)) (sym chain_is) in
          let long : get_or chain_starts (suc k) 0 ≡ get_or chain_starts k 0 + length (get_or (map (arcs_of_chain (update_count parts)) parts.chains) k []) =
          row_ends chain_starts (map (arcs_of_chain (update_count parts)) parts.chains) starts_are k (omega (arith, row_in_chains, length-map parts.chains (arcs_of_chain (update_count parts)), length-map chains chain_view)) in
          omega (arith, long, ap length row, links_length (update_count parts) (update_count parts + 1) chain.writers.items chain.costs.items chain_whole, begun, next)

      pub link_of : arc_at (arcs_of_chain (length updates) (chain_view chain)) (number - get_or chain_starts k 0) ≡ arc_at (network parts).arcs number
      link_of =
          ap (λ n. arc_at (arcs_of_chain n (chain_view chain)) (number - get_or chain_starts k 0)) (sym size_is)
          ∙ ap (λ d. arc_at (arcs_of_chain (update_count parts) d) (number - get_or chain_starts k 0)) chain_is
          ∙ ap (λ list. arc_at (arcs_of_chain (update_count parts) (get_or parts.chains k (chain_view chain))) (number - get_or list k 0)) are
          ∙ sym (arc_in_chain parts ok k number (chain_view chain) (omega (arith, row_in_chains, length-map chains chain_view)) (subst (λ list. get_or list k 0 ≤ number) are begun) (subst (λ list. number < get_or list (suc k) 0) are next))

  module _ (number : ℕ) (late : links_end ≤ number) where
    pub pair_is : number - links_end < length before → predecessor_arc (get_or before (number - links_end) (0, 0)) ≡ arc_at (network parts).arcs number
    pair_is inside =
        ap (λ n. predecessor_arc (get_or before (number - n) (0, 0))) end_is ∙ sym (arc_of_pair parts ok number (0, 0) (omega (arith, end_is, late)) (omega (arith, end_is)))

    must_parts : number < length (network parts).arcs → length before ≤ number - links_end → (number - links_end - length before < length must) × (arc_at (network parts).arcs number ≡ must_arc (update_count parts) (get_or must (number - links_end - length before) 0))
    must_parts inside after =
        subst (λ n. (number - n - length before < length must) × (arc_at (network parts).arcs number ≡ must_arc (update_count parts) (get_or must (number - n - length before) 0))) (sym end_is)
        (arc_of_must parts ok number 0 inside (omega (arith, end_is, late)) (omega (arith, end_is)))

    pub must_inside : number < length (network parts).arcs → length before ≤ number - links_end → number - links_end - length before < length must
    must_inside inside after = (must_parts inside after).0

    pub must_is : number < length (network parts).arcs → length before ≤ number - links_end → must_arc (length updates) (get_or must (number - links_end - length before) 0) ≡ arc_at (network parts).arcs number
    must_is inside after = ap (λ n. must_arc n (get_or must (number - links_end - length before) 0)) (sym size_is) ∙ sym (must_parts inside after).1
