-- The test of amounts against capacities: arc by arc it is the one row by row.
use Rattle.std.proofs.Common.{◌≡◌, ℕ, suc, ◌+◌, ◌≤◌, List, [], ◌∷◌, ◌++◌, Bool, true, false, ◌&&◌, nat_le, eqb, refl, sym, ap, ◌∙◌, arith, length, map, true≢false, eq-eqb}
use Rattle.std.specs.List.{flat_map, concat}
use Rattle.std.proofs.lemmas.Bool.{and_parts, and_from, eqb-true}
use Rattle.esr_cert.specs.Problem.{Chain, Problem, update_count}
use Rattle.esr_cert.specs.Network.{Arc, path_arcs, arcs_of_chain, predecessor_arc, must_arc, arcs_of_chains, predecessor_arcs, must_arcs, network}
use Rattle.esr_cert.specs.Flow.{within, are_within}
use Rattle.esr_cert.specs.Certificate.{Certificate, amounts, are_rows_matched, is_within}
use Rattle.esr_cert.specs.Capacities.{is_row_within, are_rows_within}
use Rattle.esr_cert.proofs.Sound.{IsProblem}
use Rattle.esr_cert.proofs.Distinct.{same_tests}
use Rattle.esr_cert.proofs.Certified.{IsWithin, within_facts}
use Rattle.esr_cert.proofs.Matched.{IsMatched, AreWhole, MatchesFirst, first_matched, are_whole, chains_length, first_two_length}

within_append : (xs ys : List Arc) (f g : List ℕ) → length f ≡ length xs → are_within (xs ++ ys) (f ++ g) ≡ (are_within xs f && are_within ys g)
within_append [] ys [] g h = refl
within_append [] ys (a ∷ f) g h = absurd (omega arith)
within_append (x ∷ xs) ys [] g h = absurd (omega arith)
within_append (x ∷ xs) ys (a ∷ f) g h = ap (λ b. within a x.capacity && b) (within_append xs ys f g (omega arith)) ∙ sym (and_assoc (within a x.capacity) (are_within xs f) (are_within ys g))
  where
    and_assoc : (x y z : Bool) → ((x && y) && z) ≡ (x && (y && z))
    and_assoc true y z = refl
    and_assoc false y z = refl

row_is_within : (from sink : ℕ) (writers costs row : List ℕ) → length costs ≤ suc (length writers) → are_within (path_arcs from sink writers costs) row ≡ is_row_within costs row
row_is_within from sink writers [] [] h = refl
row_is_within from sink writers [] (a ∷ row) h = refl
row_is_within from sink [] (c ∷ []) [] h = refl
row_is_within from sink [] (c ∷ []) (a ∷ []) h = refl
row_is_within from sink [] (c ∷ []) (a ∷ b ∷ row) h = refl
row_is_within from sink [] (c ∷ d ∷ costs) row h = absurd (omega arith)
row_is_within from sink (w ∷ writers) (c ∷ costs) [] h = refl
row_is_within from sink (w ∷ writers) (c ∷ costs) (a ∷ row) h = ap (λ b. nat_le a c && b) (row_is_within w sink writers costs row (omega arith))

row_length : (costs row : List ℕ) → is_row_within costs row ≡ true → length row ≡ length costs
row_length [] [] h = refl
row_length [] (a ∷ row) h = absurd (true≢false (sym h))
row_length (c ∷ costs) [] h = absurd (true≢false (sym h))
row_length (c ∷ costs) (a ∷ row) h = omega (arith, row_length costs row (and_parts (nat_le a c) (is_row_within costs row) h).1)

rows_matched : (chains : List Chain) (rows : List (List ℕ)) → are_rows_within chains rows ≡ true → are_rows_matched chains rows ≡ true
rows_matched [] [] h = refl
rows_matched [] (row ∷ rows) h = absurd (true≢false (sym h))
rows_matched (chain ∷ chains) [] h = absurd (true≢false (sym h))
rows_matched (chain ∷ chains) (row ∷ rows) h =
    let both : (is_row_within chain.costs row ≡ true) × (are_rows_within chains rows ≡ true) = and_parts (is_row_within chain.costs row) (are_rows_within chains rows) h in
    and_from (eqb (length row) (length chain.costs)) (are_rows_matched chains rows) (eq-eqb (length row) (length chain.costs) (row_length chain.costs row both.0)) (rows_matched chains rows both.1)

rows_are_within : (n : ℕ) (chains : List Chain) (rows : List (List ℕ)) → AreWhole chains → are_rows_matched chains rows ≡ true → are_within (flat_map (arcs_of_chain n) chains) (concat rows) ≡ are_rows_within chains rows
rows_are_within n [] [] whole m = refl
rows_are_within n [] (row ∷ rows) whole m = absurd (true≢false (sym m))
rows_are_within n (chain ∷ chains) [] whole m = absurd (true≢false (sym m))
rows_are_within n (chain ∷ chains) (row ∷ rows) whole m =
    let first : MatchesFirst n chain chains row rows = first_matched n chain chains row rows whole m in
    within_append (arcs_of_chain n chain) (flat_map (arcs_of_chain n) chains) row (concat rows) first.links
    ∙ ap (λ b. b && are_within (flat_map (arcs_of_chain n) chains) (concat rows)) (row_is_within n (n + 1) chain.writers chain.costs row (omega (arith, first.whole)))
    ∙ ap (λ b. is_row_within chain.costs row && b) (rows_are_within n chains rows first.others_whole first.others)

unlimited_pairs : (pairs : List (ℕ × ℕ)) (flow : List ℕ) → length flow ≡ length pairs → are_within (map predecessor_arc pairs) flow ≡ true
unlimited_pairs [] [] h = refl
unlimited_pairs [] (a ∷ flow) h = absurd (omega arith)
unlimited_pairs (e ∷ pairs) [] h = absurd (omega arith)
unlimited_pairs (e ∷ pairs) (a ∷ flow) h = unlimited_pairs pairs flow (omega arith)

unlimited_must : (n : ℕ) (must flow : List ℕ) → length flow ≡ length must → are_within (map (must_arc n) must) flow ≡ true
unlimited_must n [] [] h = refl
unlimited_must n [] (a ∷ flow) h = absurd (omega arith)
unlimited_must n (u ∷ must) [] h = absurd (omega arith)
unlimited_must n (u ∷ must) (a ∷ flow) h = unlimited_must n must flow (omega arith)

-- if there is one amount for each arc
arcs_within : (p : Problem) → IsProblem p → (c : Certificate) → IsMatched p c → are_within (network p).arcs (amounts c) ≡ are_rows_within p.chains c.chain_flow
arcs_within p ok c m =
    within_append (arcs_of_chains p ++ predecessor_arcs p) (must_arcs p) (concat c.chain_flow ++ c.back_flow) c.must_flow (first_two_length p ok c m)
    ∙ ap (λ x. are_within (arcs_of_chains p ++ predecessor_arcs p) (concat c.chain_flow ++ c.back_flow) && x) (unlimited_must (update_count p) p.must c.must_flow m.musts)
    ∙ and_true (are_within (arcs_of_chains p ++ predecessor_arcs p) (concat c.chain_flow ++ c.back_flow))
    ∙ within_append (arcs_of_chains p) (predecessor_arcs p) (concat c.chain_flow) c.back_flow (chains_length p ok c m)
    ∙ ap (λ x. are_within (arcs_of_chains p) (concat c.chain_flow) && x) (unlimited_pairs p.before c.back_flow m.backs)
    ∙ and_true (are_within (arcs_of_chains p) (concat c.chain_flow))
    ∙ rows_are_within (update_count p) p.chains c.chain_flow (are_whole p ok c m) m.rows
  where
    and_true : (x : Bool) → (x && true) ≡ x
    and_true true = refl
    and_true false = refl

pub within_rows : (p : Problem) → IsProblem p → (c : Certificate) → is_within p c ≡ (are_rows_within p.chains c.chain_flow && eqb (length c.back_flow) (length p.before) && eqb (length c.must_flow) (length p.must))
within_rows p ok c =
    same_tests (is_within p c) (are_rows_within p.chains c.chain_flow && eqb (length c.back_flow) (length p.before) && eqb (length c.must_flow) (length p.must))
    (λ h. let w : IsWithin p c = within_facts p c h in
    and_from (are_rows_within p.chains c.chain_flow && eqb (length c.back_flow) (length p.before)) (eqb (length c.must_flow) (length p.must))
    (and_from (are_rows_within p.chains c.chain_flow) (eqb (length c.back_flow) (length p.before)) (sym (arcs_within p ok c (record { rows = w.rows; backs = w.backs; musts = w.musts })) ∙ w.amounts) (eq-eqb (length c.back_flow) (length p.before) w.backs))
    (eq-eqb (length c.must_flow) (length p.must) w.musts))
    (λ h.
    let a : ((are_rows_within p.chains c.chain_flow && eqb (length c.back_flow) (length p.before)) ≡ true) × (eqb (length c.must_flow) (length p.must) ≡ true) = and_parts (are_rows_within p.chains c.chain_flow && eqb (length c.back_flow) (length p.before)) (eqb (length c.must_flow) (length p.must)) h in
    let b : (are_rows_within p.chains c.chain_flow ≡ true) × (eqb (length c.back_flow) (length p.before) ≡ true) = and_parts (are_rows_within p.chains c.chain_flow) (eqb (length c.back_flow) (length p.before)) a.0 in
    let m : are_rows_matched p.chains c.chain_flow ≡ true = rows_matched p.chains c.chain_flow b.0 in
    let backs : length c.back_flow ≡ length p.before = eqb-true (length c.back_flow) (length p.before) b.1 in
    let musts : length c.must_flow ≡ length p.must = eqb-true (length c.must_flow) (length p.must) a.1 in
    and_from (are_rows_matched p.chains c.chain_flow && eqb (length c.back_flow) (length p.before) && eqb (length c.must_flow) (length p.must)) (are_within (network p).arcs (amounts c))
    (and_from (are_rows_matched p.chains c.chain_flow && eqb (length c.back_flow) (length p.before)) (eqb (length c.must_flow) (length p.must))
    (and_from (are_rows_matched p.chains c.chain_flow) (eqb (length c.back_flow) (length p.before)) m b.1) a.1)
    (arcs_within p ok c (record { rows = m; backs = backs; musts = musts }) ∙ b.0))
