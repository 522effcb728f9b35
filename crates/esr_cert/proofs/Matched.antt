-- If a certificate has one amount for each arc, its parts are those of the network.
use Rattle.std.proofs.Common.{Contains, ◌≡◌, ℕ, ◌+◌, List, [], ◌∷◌, ◌++◌, Bool, true, eqb, refl, sym, ◌∙◌, arith, length, true≢false}
use Rattle.std.specs.List.{flat_map, concat}
use Rattle.std.proofs.lemmas.Bool.{and_parts, eqb-true}
use Rattle.std.proofs.lemmas.List.{length-append, length-map}
use Rattle.esr_cert.specs.Problem.{Chain, Problem, update_count}
use Rattle.esr_cert.specs.Network.{Arc, path_arcs, arcs_of_chain, predecessor_arc, must_arc, arcs_of_chains, predecessor_arcs, must_arcs, network}
use Rattle.esr_cert.specs.Flow.{carried}
use Rattle.esr_cert.specs.Certificate.{Certificate, amounts, are_rows_matched}
use Rattle.esr_cert.proofs.Flows.{carried_append}
use Rattle.esr_cert.proofs.Sound.{here, there, IsProblem}

pub record IsMatched (p : Problem) (c : Certificate) : Type 0 where
  pub rows : are_rows_matched p.chains c.chain_flow ≡ true
  pub backs : length c.back_flow ≡ length p.before
  pub musts : length c.must_flow ≡ length p.must

pub links_length : (from sink : ℕ) (writers costs : List ℕ) → length costs ≡ length writers + 1 → length (path_arcs from sink writers costs) ≡ length costs
links_length from sink writers [] e = refl
links_length from sink [] (c ∷ []) e = refl
links_length from sink [] (c ∷ d ∷ costs) e = absurd (omega arith)
links_length from sink (w ∷ writers) (c ∷ costs) e = omega (arith, links_length w sink writers costs (omega arith))

-- the costs of each chain are one more than its writers
abbrev pub AreWhole : List Chain → Type 0
AreWhole chains = (chain : Chain) → Contains chains chain → length chain.costs ≡ length chain.writers + 1

pub record MatchesFirst (n : ℕ) (chain : Chain) (chains : List Chain) (row : List ℕ) (rows : List (List ℕ)) : Type 0 where
  pub whole : length chain.costs ≡ length chain.writers + 1
  pub costs : length row ≡ length chain.costs
  pub links : length row ≡ length (arcs_of_chain n chain)
  pub others_whole : AreWhole chains
  pub others : are_rows_matched chains rows ≡ true

pub first_matched : (n : ℕ) (chain : Chain) (chains : List Chain) (row : List ℕ) (rows : List (List ℕ)) → AreWhole (chain ∷ chains) → are_rows_matched (chain ∷ chains) (row ∷ rows) ≡ true → MatchesFirst n chain chains row rows
first_matched n chain chains row rows whole m =
    let both : (eqb (length row) (length chain.costs) ≡ true) × (are_rows_matched chains rows ≡ true) = and_parts (eqb (length row) (length chain.costs)) (are_rows_matched chains rows) m in
    let one : length chain.costs ≡ length chain.writers + 1 = whole chain (here chain chains) in
    let same : length row ≡ length chain.costs = eqb-true (length row) (length chain.costs) both.0 in
    record {
      whole = one;
      costs = same;
      links = same ∙ sym (links_length n (n + 1) chain.writers chain.costs one);
      others_whole = λ d k. whole d (there chain d chains k);
      others = both.1;
    }

rows_length : (n : ℕ) (chains : List Chain) (rows : List (List ℕ)) → AreWhole chains → are_rows_matched chains rows ≡ true → length (concat rows) ≡ length (flat_map (arcs_of_chain n) chains)
rows_length n [] [] whole m = refl
rows_length n [] (row ∷ rows) whole m = absurd (true≢false (sym m))
rows_length n (chain ∷ chains) [] whole m = absurd (true≢false (sym m))
rows_length n (chain ∷ chains) (row ∷ rows) whole m =
    let f : MatchesFirst n chain chains row rows = first_matched n chain chains row rows whole m in
    omega (arith, length-append row (concat rows), length-append (arcs_of_chain n chain) (flat_map (arcs_of_chain n) chains), f.links, rows_length n chains rows f.others_whole f.others)

module _ (p : Problem) (ok : IsProblem p) (c : Certificate) (m : IsMatched p c) where
  pub are_whole : AreWhole p.chains
  are_whole chain k = (ok.chains chain k).one_more

  pub chains_length : length (concat c.chain_flow) ≡ length (arcs_of_chains p)
  chains_length = rows_length (update_count p) p.chains c.chain_flow are_whole m.rows

  pub first_two_length : length (concat c.chain_flow ++ c.back_flow) ≡ length (arcs_of_chains p ++ predecessor_arcs p)
  first_two_length =
      omega (arith, chains_length, m.backs, length-map {B = Arc} p.before predecessor_arc, length-append (concat c.chain_flow) c.back_flow, length-append (arcs_of_chains p) (predecessor_arcs p))

  pub amounts_length : length (amounts c) ≡ length (network p).arcs
  amounts_length =
      omega (arith, first_two_length, m.musts, length-map {B = Arc} p.must (must_arc (update_count p)), length-append (concat c.chain_flow ++ c.back_flow) c.must_flow, length-append (arcs_of_chains p ++ predecessor_arcs p) (must_arcs p))

  -- a sum over all arcs, by the parts
  pub carried_parts : (q : Arc → Bool) → carried q (network p).arcs (amounts c) ≡ carried q (arcs_of_chains p) (concat c.chain_flow) + carried q (predecessor_arcs p) c.back_flow + carried q (must_arcs p) c.must_flow
  carried_parts q =
      omega (
        arith,
        carried_append q (arcs_of_chains p ++ predecessor_arcs p) (must_arcs p) (concat c.chain_flow ++ c.back_flow) c.must_flow first_two_length,
        carried_append q (arcs_of_chains p) (predecessor_arcs p) (concat c.chain_flow) c.back_flow chains_length,
      )
