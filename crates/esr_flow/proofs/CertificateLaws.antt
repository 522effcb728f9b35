-- The certificate of a maximum flow.
use Rattle.std.proofs.Common.{◌≡◌, ℕ, ◌+◌, ◌-◌, ◌≤◌, Bool, true, false, List, [], ◌∷◌, ◌++◌, length, take, drop, map, flat_map, sum_by, Contains, Vec, Global, refl, sym, ap, ◌∙◌, subst, arith, eq-eqb, append-nil, length-append, length-take, length-drop, take-add, take-append-drop, ◌==◌, nat_lt}
use Rattle.std.specs.List.{concat, list_all}
use Rattle.std.proofs.lemmas.Bool.{and_parts, and_from}
use Rattle.std.proofs.lemmas.List.{length-map, map-append}
use Rattle.std.proofs.lemmas.List.Folds.{concat-append}
use Rattle.std.proofs.lemmas.List.Sums.{sum_by-cons, sum_by-append}
use Rattle.esr_flow.specs.Types.{Arc}
use Rattle.esr_cert.specs.declared.problem.Chain as code
use Rattle.esr_cert.specs.Problem.{Chain, Problem, update_count, in_set, is_strictly_ascending, cost, IsSmallestLeastCostSet}
use Rattle.esr_cert.specs.Network.{path_arcs, arcs_of_chain, arcs_of_chains, predecessor_arcs, must_arcs, predecessor_arc, must_arc, network}
use Rattle.esr_cert.specs.Flow.{are_within, IsFlow, worth}
use Rattle.esr_cert.specs.Certificate.{Certificate, amounts, are_rows_matched, is_count_in_bound, Certifies}
use Rattle.esr_cert.specs.Views.{chain_view, rows_of}
use Rattle.esr_cert.proofs.Sound.{here, there, IsChain, IsProblem}
use Rattle.esr_cert.proofs.Flows.{within_from, conserved_from}
use Rattle.esr_cert.proofs.Certified.{certifies_from}
use Rattle.esr_flow.specs.Augmentation.{IsReach}
use Rattle.esr_flow.specs.Members.{members_below}
use Rattle.esr_flow.proofs.Smallest.{smallest_least, reach_cost}
use Rattle.esr_flow.proofs.SolveLaws.{positions_at, positions_below, positions_ascend, smallest_same, same_cost}

links_length : (from sink : ℕ) (writers costs : List ℕ) → length costs ≡ length writers + 1 → length (path_arcs from sink writers costs) ≡ length costs
links_length from sink writers [] e = absurd (omega arith)
links_length from sink [] (c ∷ costs) e = omega arith
links_length from sink (w ∷ writers) (c ∷ costs) e = omega (arith, links_length w sink writers costs (omega arith))

chains_length : (p : Problem) (n : ℕ) (chains : List Chain) → ((chain : Chain) → Contains chains chain → IsChain p chain) → length (flat_map (arcs_of_chain n) chains) ≡ sum_by (λ chain. length chain.costs) chains
chains_length p n [] h = refl
chains_length p n (c ∷ chains) h =
    omega (
      arith,
      length-append (path_arcs n (n + 1) c.writers c.costs) (flat_map (arcs_of_chain n) chains),
      links_length n (n + 1) c.writers c.costs (h c (here c chains)).one_more,
      chains_length p n chains (λ d k. h d (there c d chains k)),
      sum_by-cons (λ chain. length chain.costs) c chains,
    )

-- there are as many amounts as costs, pairs, and updates that a set must contain
pub flow_length : (p : Problem) → IsProblem p → (flow : List ℕ) → IsFlow (network p) flow → length flow ≡ sum_by (λ chain. length chain.costs) p.chains + length p.before + length p.must
flow_length p ok flow f =
    omega (
      arith,
      f.same_length,
      length-append (arcs_of_chains p ++ predecessor_arcs p) (must_arcs p),
      length-append (arcs_of_chains p) (predecessor_arcs p),
      chains_length p (update_count p) p.chains ok.chains,
      length-map {B = Arc} p.before predecessor_arc,
      length-map {B = Arc} p.must (must_arc (update_count p)),
    )

pub costs_mapped : (chains : List code.Chain) → sum_by (λ (chain : Chain). length chain.costs) (map chain_view chains) ≡ sum_by (λ (chain : code.Chain). length chain.costs.items) chains
costs_mapped [] = refl
costs_mapped (c ∷ chains) = omega (arith, sum_by-cons (λ (chain : Chain). length chain.costs) (chain_view c) (map chain_view chains), sum_by-cons (λ (chain : code.Chain). length chain.costs.items) c chains, costs_mapped chains)

-- a further row
pub cut_more : (rows : List (Vec ℕ Global)) (row : Vec ℕ Global) (flow : List ℕ) (at n : ℕ) → concat (rows_of rows) ≡ take at flow → row.items ≡ take ((at + n) - at) (drop at flow) → concat (rows_of (rows ++ row ∷ [])) ≡ take (at + n) flow
cut_more rows row flow at n h e =
    let m : (at + n) - at ≡ n = omega arith in
    let one : row.items ≡ take n (drop at flow) = e ∙ ap (λ k. take k (drop at flow)) m in
    ap concat (map-append (λ (r : Vec ℕ Global). r.items) rows (row ∷ []))
    ∙ concat-append (rows_of rows) (row.items ∷ [])
    ∙ ap (λ xs. xs ++ (row.items ++ [])) h
    ∙ ap (λ xs. take at flow ++ xs) (append-nil row.items ∙ one)
    ∙ sym (take-add at n flow)

matched_push : (chains : List Chain) (rows : List (List ℕ)) (chain : Chain) (row : List ℕ) → are_rows_matched chains rows ≡ true → length row ≡ length chain.costs → are_rows_matched (chains ++ chain ∷ []) (rows ++ row ∷ []) ≡ true
matched_push [] [] chain row h e = and_from (length row == length chain.costs) true (eq-eqb (length row) (length chain.costs) e) refl
matched_push [] (r ∷ rows) chain row h e = cc
matched_push (c ∷ chains) [] chain row h e = cc
matched_push (c ∷ chains) (r ∷ rows) chain row h e =
    let both : ((length r == length c.costs) ≡ true) × (are_rows_matched chains rows ≡ true) = and_parts (length r == length c.costs) (are_rows_matched chains rows) h in
    and_from (length r == length c.costs) (are_rows_matched (chains ++ chain ∷ []) (rows ++ row ∷ [])) both.0 (matched_push chains rows chain row both.1 e)

pub matched_more : (chains : List code.Chain) (rows : List (Vec ℕ Global)) (chain : code.Chain) (row : Vec ℕ Global) → are_rows_matched (map chain_view chains) (rows_of rows) ≡ true → length row.items ≡ length chain.costs.items → are_rows_matched (map chain_view (chains ++ chain ∷ [])) (rows_of (rows ++ row ∷ [])) ≡ true
matched_more chains rows chain row h e =
    ap (λ cs. are_rows_matched cs (rows_of (rows ++ row ∷ []))) (map-append chain_view chains (chain ∷ []))
    ∙ ap (are_rows_matched (map chain_view chains ++ chain_view chain ∷ [])) (map-append (λ (r : Vec ℕ Global). r.items) rows (row ∷ []))
    ∙ matched_push (map chain_view chains) (rows_of rows) (chain_view chain) row.items h e

pub sum_take : (chains : List code.Chain) (n : ℕ) → sum_by (λ (chain : code.Chain). length chain.costs.items) (take n chains) ≤ sum_by (λ (chain : code.Chain). length chain.costs.items) chains
sum_take chains n =
    omega (arith, sum_by-append (λ (chain : code.Chain). length chain.costs.items) (take n chains) (drop n chains), ap (sum_by (λ (chain : code.Chain). length chain.costs.items)) (take-append-drop n chains))

pub row_long : (row flow : List ℕ) (at n : ℕ) → row ≡ take ((at + n) - at) (drop at flow) → at + n ≤ length flow → length row ≡ n
row_long row flow at n e l = omega (arith, ap length e, length-take ((at + n) - at) (drop at flow), length-drop at flow)

-- amounts that were cut at one index, and their prefix at another
pub whole : (xs bs ms flow : List ℕ) (k n : ℕ) → xs ≡ take k (take n flow) → bs ≡ drop k (take n flow) → ms ≡ drop n flow → (xs ++ bs) ++ ms ≡ flow
whole xs bs ms flow k n a b c =
    ap (λ l. (l ++ bs) ++ ms) a
    ∙ ap (λ l. (take k (take n flow) ++ l) ++ ms) b
    ∙ ap (λ l. l ++ ms) (take-append-drop k (take n flow))
    ∙ ap (λ l. take n flow ++ l) c
    ∙ take-append-drop n flow

-- the first part of the amounts is as long as the costs, the second as the pairs, the third as the updates that a set
-- must contain
pub record Parts (p : Problem) (flow xs bs ms : List ℕ) : Type 0 where
  pub backs : length bs ≡ length p.before
  pub musts : length ms ≡ length p.must
  pub whole : (xs ++ bs) ++ ms ≡ flow

pub least_set : (p : Problem) → IsProblem p → (flow : List ℕ) → IsFlow (network p) flow → (has : ℕ → Bool) → IsReach (network p) flow has → has (update_count p + 1) ≡ false → (set : List ℕ) → set ≡ members_below has (update_count p) → IsSmallestLeastCostSet p (in_set set)
least_set p ok flow f has r s set e =
    smallest_same p ok has (in_set set)
    (λ u l. sym (positions_at has (update_count p) u l) ∙ ap (λ xs. in_set xs u) (sym e))
    (smallest_least p ok flow has f r s)

pub certified : (p : Problem) → IsProblem p → (flow : List ℕ) → IsFlow (network p) flow → (has : ℕ → Bool) → IsReach (network p) flow has → has (update_count p + 1) ≡ false
    → (c : Certificate) → c.set ≡ members_below has (update_count p) → Parts p flow (concat c.chain_flow) c.back_flow c.must_flow → are_rows_matched p.chains c.chain_flow ≡ true
    → c.worth ≡ worth (network p) flow → is_count_in_bound p c.augmentations ≡ true → Certifies p c
certified p ok flow f has r s c set_is parts rows worth_is short =
    let smallest : IsSmallestLeastCostSet p (in_set c.set) = least_set p ok flow f has r s c.set set_is in
    let same : cost p has ≡ cost p (in_set c.set) =
    same_cost p ok has (in_set c.set) (λ u l. sym (positions_at has (update_count p) u l) ∙ ap (λ xs. in_set xs u) (sym set_is)) in
    let g : IsFlow (network p) (amounts c) = subst (IsFlow (network p)) (sym parts.whole) f in
    let inside : are_within (network p).arcs (amounts c) ≡ true = within_from (network p).arcs (amounts c) g.same_length g.within_capacity in
    let tight : c.worth ≡ worth (network p) (amounts c) = worth_is ∙ ap (worth (network p)) (sym parts.whole) in
    let dear : c.worth ≡ cost p (in_set c.set) = worth_is ∙ reach_cost p ok flow has f r s ∙ same in
    certifies_from p c (record {
      ascending = ap is_strictly_ascending set_is ∙ positions_ascend has (update_count p);
      in_range = ap (list_all (λ u. nat_lt u (update_count p))) set_is ∙ positions_below has (update_count p);
      closed = smallest.closed;
      within = and_from _ _ (and_from _ _ (and_from _ _ rows (eq-eqb _ _ parts.backs)) (eq-eqb _ _ parts.musts)) inside;
      conserved = conserved_from (network p) (amounts c) g.conserved;
      tight = and_from _ _ (eq-eqb _ _ tight) (eq-eqb _ _ dear);
      short = short;
    })
