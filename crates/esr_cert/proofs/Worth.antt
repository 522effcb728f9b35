-- The worth of a certificate's flow is the sum of the first amounts of its chains and of the amounts on the arcs to the
-- updates that a set must contain.
use Rattle.std.proofs.Common.{Contains, ◌≡◌, ◌≢◌, ℕ, ◌+◌, ◌<◌, List, [], ◌∷◌, ◌++◌, Bool, true, eqb, refl, sym, ap, arith, length, get_or, map, sum, sum_by, eq-eqb, ne_eqb, true≢false}
use Rattle.std.specs.List.{flat_map, concat}
use Rattle.std.proofs.lemmas.List.{length-append, length-map}
use Rattle.std.proofs.lemmas.List.Sums.{sum_by-cons}
use Rattle.esr_cert.specs.Problem.{Chain, Problem, update_count}
use Rattle.esr_cert.specs.Network.{Arc, path_arcs, arcs_of_chain, predecessor_arc, must_arc, arcs_of_chains, predecessor_arcs, must_arcs, network}
use Rattle.esr_cert.specs.Flow.{carried, worth}
use Rattle.esr_cert.specs.Certificate.{Certificate, amounts, are_rows_matched}
use Rattle.esr_cert.proofs.Cut.{pick}
use Rattle.esr_cert.proofs.Flows.{carried_append}
use Rattle.esr_cert.proofs.Sound.{here, there, IsProblem}
use Rattle.esr_cert.proofs.Matched.{IsMatched, AreWhole, MatchesFirst, links_length, first_matched, are_whole, carried_parts}

abbrev leaves : ℕ → Arc → Bool
leaves n arc = eqb arc.from n

links_none : (n from sink : ℕ) (writers costs row : List ℕ) → from ≢ n → ((u : ℕ) → Contains writers u → u < n) → carried (leaves n) (path_arcs from sink writers costs) row ≡ 0
links_none n from sink [] [] row ne h = refl
links_none n from sink (w ∷ writers) [] row ne h = refl
links_none n from sink [] (c ∷ costs) [] ne h = refl
links_none n from sink [] (c ∷ costs) (x ∷ row) ne h = omega (arith, ap (λ b. pick b x) (ne_eqb from n ne))
links_none n from sink (w ∷ writers) (c ∷ costs) [] ne h = refl
links_none n from sink (w ∷ writers) (c ∷ costs) (x ∷ row) ne h =
    let m : w < n = h w (here w writers) in
    omega (arith, ap (λ b. pick b x) (ne_eqb from n ne), links_none n w sink writers costs row (λ (e : w ≡ n). omega arith) (λ u k. h u (there w u writers k)))

links_first : (n sink : ℕ) (writers costs row : List ℕ) → length costs ≡ length writers + 1 → length row ≡ length costs → ((u : ℕ) → Contains writers u → u < n) → carried (leaves n) (path_arcs n sink writers costs) row ≡ get_or row 0 0
links_first n sink writers [] row e m h = absurd (omega arith)
links_first n sink [] (c ∷ costs) [] e m h = absurd (omega arith)
links_first n sink [] (c ∷ costs) (x ∷ row) e m h = omega (arith, ap (λ b. pick b x) (eq-eqb n n refl))
links_first n sink (w ∷ writers) (c ∷ costs) [] e m h = absurd (omega arith)
links_first n sink (w ∷ writers) (c ∷ costs) (x ∷ row) e m h =
    let k : w < n = h w (here w writers) in
    omega (arith, ap (λ b. pick b x) (eq-eqb n n refl), links_none n w sink writers costs row (λ (q : w ≡ n). omega arith) (λ u r. h u (there w u writers r)))

abbrev first_of : List ℕ → ℕ
first_of row = get_or row 0 0

chains_first : (n : ℕ) (chains : List Chain) (rows : List (List ℕ)) → AreWhole chains → ((chain : Chain) → Contains chains chain → (u : ℕ) → Contains chain.writers u → u < n) → are_rows_matched chains rows ≡ true → carried (leaves n) (flat_map (arcs_of_chain n) chains) (concat rows) ≡ sum_by first_of rows
chains_first n [] [] whole h m = refl
chains_first n [] (row ∷ rows) whole h m = absurd (true≢false (sym m))
chains_first n (chain ∷ chains) [] whole h m = absurd (true≢false (sym m))
chains_first n (chain ∷ chains) (row ∷ rows) whole h m =
    let first : MatchesFirst n chain chains row rows = first_matched n chain chains row rows whole m in
    omega (
      arith,
      carried_append (leaves n) (arcs_of_chain n chain) (flat_map (arcs_of_chain n) chains) row (concat rows) first.links,
      links_first n (n + 1) chain.writers chain.costs row first.whole first.costs (h chain (here chain chains)),
      chains_first n chains rows first.others_whole (λ d k. h d (there chain d chains k)) first.others,
      sum_by-cons first_of row rows,
    )

pairs_none : (n : ℕ) (pairs : List (ℕ × ℕ)) (flow : List ℕ) → ((u v : ℕ) → Contains pairs (u, v) → (u < n) × (v < n)) → carried (leaves n) (map predecessor_arc pairs) flow ≡ 0
pairs_none n [] flow h = refl
pairs_none n (q ∷ pairs) [] h = refl
pairs_none n (q ∷ pairs) (x ∷ flow) h =
    let m : (q.0 < n) × (q.1 < n) = h q.0 q.1 (here q pairs) in
    omega (arith, ap (λ b. pick b x) (ne_eqb q.1 n (λ (e : q.1 ≡ n). omega arith)), pairs_none n pairs flow (λ u v k. h u v (there q (u, v) pairs k)))

must_all : (n : ℕ) (must flow : List ℕ) → length flow ≡ length must → carried (leaves n) (map (must_arc n) must) flow ≡ sum flow
must_all n [] [] e = refl
must_all n [] (x ∷ flow) e = absurd (omega arith)
must_all n (u ∷ must) [] e = absurd (omega arith)
must_all n (u ∷ must) (x ∷ flow) e =
    omega (arith, ap (λ b. pick b x) (eq-eqb n n refl), must_all n must flow (omega arith), sum_by-cons (λ (y : ℕ). y) x flow)

pub worth_firsts : (p : Problem) → IsProblem p → (c : Certificate) → IsMatched p c → worth (network p) (amounts c) ≡ sum_by first_of c.chain_flow + sum c.must_flow
worth_firsts p ok c m =
    omega (
      arith,
      carried_parts p ok c m (leaves (update_count p)),
      chains_first (update_count p) p.chains c.chain_flow (are_whole p ok c m) (λ chain k. (ok.chains chain k).writers) m.rows,
      pairs_none (update_count p) p.before c.back_flow ok.pairs,
      must_all (update_count p) p.must c.must_flow m.musts,
    )

-- ---- how many arcs there are

chain_count : (n : ℕ) (chains : List Chain) → AreWhole chains → length (flat_map (arcs_of_chain n) chains) ≡ sum_by (λ chain. length chain.costs) chains
chain_count n [] h = refl
chain_count n (chain ∷ chains) h =
    omega (
      arith,
      length-append (arcs_of_chain n chain) (flat_map (arcs_of_chain n) chains),
      links_length n (n + 1) chain.writers chain.costs (h chain (here chain chains)),
      chain_count n chains (λ d k. h d (there chain d chains k)),
      sum_by-cons (λ (chain : Chain). length chain.costs) chain chains,
    )

pub arc_count : (p : Problem) → IsProblem p → length (network p).arcs ≡ sum_by (λ chain. length chain.costs) p.chains + length p.before + length p.must
arc_count p ok =
    omega (
      arith,
      length-append (arcs_of_chains p ++ predecessor_arcs p) (must_arcs p),
      length-append (arcs_of_chains p) (predecessor_arcs p),
      chain_count (update_count p) p.chains (λ chain k. (ok.chains chain k).one_more),
      length-map {B = Arc} p.before predecessor_arc,
      length-map {B = Arc} p.must (must_arc (update_count p)),
    )
