-- The cuts of a problem's network are its closed sets, and their capacities are the costs. So the worth of a flow is at
-- most the cost of any closed set.
use Rattle.std.proofs.Common.{◌≡◌, ◌≢◌, ℕ, zero, suc, ◌+◌, ◌<◌, ◌≤◌, Bool, true, false, cond, not, ◌&&◌, ◌||◌, eqb, List, [], ◌∷◌, ◌++◌, length, get_or, map, flat_map, sum_by, Contains, Some, refl, sym, ap, ◌∙◌, inl, inr, arith, lt-ltb, le-ltb, eq-eqb, ne_eqb, true≢false}
use Rattle.std.specs.List.{list_any}
use Rattle.std.proofs.lemmas.Bool.{cases_Bool, and_left, or_left, or_from, cond-true, cond-false}
use Rattle.std.proofs.lemmas.List.Sums.{sum_by-cons}
use Rattle.esr_cert.specs.Problem.{Chain, Problem, update_count, is_closed, version, chain_cost, cost}
use Rattle.esr_cert.specs.Network.{Arc, arc_at, IsNetwork, path_arcs, arcs_of_chain, predecessor_arc, must_arc, arcs_of_chains, predecessor_arcs, must_arcs, network}
use Rattle.esr_cert.specs.Flow.{IsFlow, worth}
use Rattle.esr_cert.specs.Cut.{leaves, cut_capacity, IsFinite, HasFiniteCapacity, with_source}
use Rattle.esr_cert.proofs.Cut.{pick, weak}
use Rattle.esr_cert.proofs.Sound.{here, there, Neighbours, IsChain, IsProblem, IsClosed, closed_facts}

-- a property of each arc of a list
abbrev pub Each : (Arc → Type 0) → List Arc → Type 0
Each P [] = Unit {0}
Each P (a ∷ arcs) = P a × Each P arcs

each_append : (P : Arc → Type 0) (xs ys : List Arc) → Each P xs → Each P ys → Each P (xs ++ ys)
each_append P [] ys h k = k
each_append P (x ∷ xs) ys h k = (h.0, each_append P xs ys h.1 k)

each_at : (P : Arc → Type 0) (arcs : List Arc) → Each P arcs → (i : ℕ) → i < length arcs → P (arc_at arcs i)
each_at P [] h i l = absurd (omega arith)
each_at P (a ∷ arcs) h zero l = h.0
each_at P (a ∷ arcs) h (suc i) l = each_at P arcs h.1 i (omega arith)

across_append : (has : ℕ → Bool) (xs ys : List Arc) → cut_capacity has (xs ++ ys) ≡ cut_capacity has xs + cut_capacity has ys
across_append has [] ys = omega arith
across_append has (x ∷ xs) ys = omega (arith, across_append has xs ys)

with_update : (n : ℕ) (has : ℕ → Bool) (v : ℕ) → v < n → with_source n has v ≡ has v
with_update n has v l = ap (λ b. cond b (has v) (eqb v n)) (lt-ltb v n l)

pub with_the_source : (n : ℕ) (has : ℕ → Bool) → with_source n has n ≡ true
with_the_source n has = ap (λ b. cond b (has n) (eqb n n)) (le-ltb n n (omega arith)) ∙ eq-eqb n n refl

pub without_sink : (n : ℕ) (has : ℕ → Bool) → with_source n has (n + 1) ≡ false
without_sink n has = ap (λ b. cond b (has (n + 1)) (eqb (n + 1) n)) (le-ltb (n + 1) n (omega arith)) ∙ ne_eqb (n + 1) n (λ (e : n + 1 ≡ n). omega arith)

-- with a writer a set has the one before it
abbrev Backed : (ℕ → Bool) → ℕ → List ℕ → Type 0
Backed test u [] = Unit {0}
Backed test u (w ∷ writers) = (test w ≡ true → test u ≡ true) × Backed test w writers

crosses_not : (test : ℕ → Bool) (arc : Arc) → test arc.from ≡ false → leaves test arc ≡ false
crosses_not test arc e = and_left _ _ e

any_none : (test : ℕ → Bool) (writers : List ℕ) → version test writers ≡ 0 → list_any test writers ≡ false
any_none test [] e = refl
any_none test (w ∷ writers) e = go (list_any test (w ∷ writers)) e
  where
    go : (b : Bool) → cond b (suc (version test writers)) 0 ≡ 0 → b ≡ false
    go true e = absurd (omega arith)
    go false e = refl

version_none : (test : ℕ → Bool) (w : ℕ) (writers : List ℕ) → test w ≡ false → version test writers ≡ 0 → version test (w ∷ writers) ≡ 0
version_none test w writers t e = cond-false _ _ _ (or_from (test w) (list_any test writers) t (any_none test writers e))

version_some : (test : ℕ → Bool) (w : ℕ) (writers : List ℕ) → test w ≡ true → version test (w ∷ writers) ≡ suc (version test writers)
version_some test w writers t = cond-true _ _ _ (or_left (test w) (list_any test writers) t)

-- from a node that is not in the set, nothing crosses, and the set has none of the writers
links_out : (test : ℕ → Bool) (sink : ℕ) (from : ℕ) (writers costs : List ℕ) → test from ≡ false → test sink ≡ false → Backed test from writers → (cut_capacity test (path_arcs from sink writers costs) ≡ 0) × (version test writers ≡ 0)
links_out test sink from [] [] f s b = (refl, refl)
links_out test sink from (w ∷ writers) [] f s b =
    let not_w : test w ≡ false = backed_out (test w) (test from) b.0 f in
    let rest : (cut_capacity test (path_arcs w sink writers []) ≡ 0) × (version test writers ≡ 0) = links_out test sink w writers [] not_w s b.1 in
    (refl, version_none test w writers not_w rest.1)
  where
    backed_out : (x y : Bool) → (x ≡ true → y ≡ true) → y ≡ false → x ≡ false
    backed_out true y k e = absurd (true≢false (sym (k refl) ∙ e))
    backed_out false y k e = refl
links_out test sink from [] (c ∷ costs) f s b = (omega (arith, ap (λ x. pick x c) (crosses_not test (record { from = from; to = sink; capacity = Some c }) f)), refl)
links_out test sink from (w ∷ writers) (c ∷ costs) f s b =
    let not_w : test w ≡ false = backed_out (test w) (test from) b.0 f in
    let rest : (cut_capacity test (path_arcs w sink writers costs) ≡ 0) × (version test writers ≡ 0) = links_out test sink w writers costs not_w s b.1 in
    (omega (arith, ap (λ x. pick x c) (crosses_not test (record { from = from; to = w; capacity = Some c }) f)), version_none test w writers not_w rest.1)
  where
    backed_out : (x y : Bool) → (x ≡ true → y ≡ true) → y ≡ false → x ≡ false
    backed_out true y k e = absurd (true≢false (sym (k refl) ∙ e))
    backed_out false y k e = refl

crossing : (x y : Bool) → x ≡ true → y ≡ false → (x && not y) ≡ true
crossing true false p q = refl
crossing true true p q = cc
crossing false y p q = cc

-- from a member, the one arc that crosses is that of the version
links_in : (test : ℕ → Bool) (sink : ℕ) (from : ℕ) (writers costs : List ℕ) → test from ≡ true → test sink ≡ false → Backed test from writers → length costs ≡ length writers + 1 → cut_capacity test (path_arcs from sink writers costs) ≡ get_or costs (version test writers) 0
links_in test sink from writers [] f s b e = absurd (omega arith)
links_in test sink from [] (c ∷ costs) f s b e =
    let all : leaves test (record { from = from; to = sink; capacity = Some c }) ≡ true = crossing (test from) (test sink) f s in
    omega (arith, ap (λ x. pick x c) all)
links_in test sink from (w ∷ writers) (c ∷ costs) f s b e =
    let inside : test w ≡ true → cut_capacity test (path_arcs w sink writers costs) ≡ get_or costs (version test writers) 0 = λ t. links_in test sink w writers costs t s b.1 (omega arith) in
    elim (cases_Bool (test w)) [
      | inl t ↦
          let v : version test (w ∷ writers) ≡ suc (version test writers) = version_some test w writers t in
          let none : leaves test (record { from = from; to = w; capacity = Some c }) ≡ false = staying (test from) (test w) t in
          let at : get_or (c ∷ costs) (version test (w ∷ writers)) 0 ≡ get_or costs (version test writers) 0 = ap (λ n. get_or (c ∷ costs) n 0) v in
          omega (arith, ap (λ x. pick x c) none, inside t)
      | inr t ↦
          let rest : (cut_capacity test (path_arcs w sink writers costs) ≡ 0) × (version test writers ≡ 0) = links_out test sink w writers costs t s b.1 in
          let v : version test (w ∷ writers) ≡ 0 = version_none test w writers t rest.1 in
          let all : leaves test (record { from = from; to = w; capacity = Some c }) ≡ true = crossing (test from) (test w) f t in
          let at : get_or (c ∷ costs) (version test (w ∷ writers)) 0 ≡ c = ap (λ n. get_or (c ∷ costs) n 0) v in
          omega (arith, ap (λ x. pick x c) all)
    ]
  where
    staying : (x y : Bool) → y ≡ true → (x && not y) ≡ false
    staying true true q = refl
    staying false y q = refl
    staying true false q = cc

any_same : (f g : ℕ → Bool) (writers : List ℕ) → ((u : ℕ) → Contains writers u → f u ≡ g u) → list_any f writers ≡ list_any g writers
any_same f g [] h = refl
any_same f g (w ∷ writers) h =
    ap (λ b. b || list_any f writers) (h w (here w writers)) ∙ ap (λ b. g w || b) (any_same f g writers (λ u c. h u (there w u writers c)))

-- a set's version of a chain depends on the writers alone
pub version_same : (f g : ℕ → Bool) (writers : List ℕ) → ((u : ℕ) → Contains writers u → f u ≡ g u) → version f writers ≡ version g writers
version_same f g [] h = refl
version_same f g (w ∷ writers) h =
    let rest : version f writers ≡ version g writers = version_same f g writers (λ u c. h u (there w u writers c)) in
    ap (λ n. cond (list_any f (w ∷ writers)) (suc n) 0) rest ∙ ap (λ b. cond b (suc (version g writers)) 0) (any_same f g (w ∷ writers) h)

module _ (p : Problem) (ok : IsProblem p) where
  abbrev count : ℕ
  count = update_count p

  -- no arc of a chain is unlimited, and the ends are nodes
  abbrev Good : Arc → Type 0
  Good arc = (arc.from < count + 2) × (arc.to < count + 2) × (arc.to ≢ count)

  good_links : (from : ℕ) (writers costs : List ℕ) → from < count + 2 → ((u : ℕ) → Contains writers u → u < count) → Each Good (path_arcs from (count + 1) writers costs)
  good_links from [] [] l h = tt
  good_links from (w ∷ writers) [] l h = tt
  good_links from [] (c ∷ costs) l h = ((l, omega arith, λ (e : count + 1 ≡ count). omega arith), tt)
  good_links from (w ∷ writers) (c ∷ costs) l h =
      let m : w < count = h w (here w writers) in
      ((l, omega arith, λ (e : w ≡ count). omega arith), good_links w writers costs (omega arith) (λ u k. h u (there w u writers k)))

  good_chains : (chains : List Chain) → ((chain : Chain) → Contains chains chain → IsChain p chain) → Each Good (flat_map (arcs_of_chain count) chains)
  good_chains [] h = tt
  good_chains (c ∷ chains) h =
      each_append Good (path_arcs count (count + 1) c.writers c.costs) (flat_map (arcs_of_chain count) chains)
      (good_links count c.writers c.costs (omega arith) (h c (here c chains)).writers)
      (good_chains chains (λ d k. h d (there c d chains k)))

  good_backs : (pairs : List (ℕ × ℕ)) → ((u v : ℕ) → Contains pairs (u, v) → (u < count) × (v < count)) → Each Good (map predecessor_arc pairs)
  good_backs [] h = tt
  good_backs (q ∷ pairs) h =
      let m : (q.0 < count) × (q.1 < count) = h q.0 q.1 (here q pairs) in
      ((omega arith, omega arith, λ (e : q.0 ≡ count). omega arith), good_backs pairs (λ u v k. h u v (there q (u, v) pairs k)))

  good_musts : (us : List ℕ) → ((u : ℕ) → Contains us u → u < count) → Each Good (map (must_arc count) us)
  good_musts [] h = tt
  good_musts (u ∷ us) h =
      let m : u < count = h u (here u us) in
      ((omega arith, omega arith, λ (e : u ≡ count). omega arith), good_musts us (λ w k. h w (there u w us k)))

  pub is_network : IsNetwork (network p)
  is_network =
      let each : Each Good (network p).arcs = each_append Good (arcs_of_chains p ++ predecessor_arcs p) (must_arcs p) (each_append Good (arcs_of_chains p) (predecessor_arcs p) (good_chains p.chains ok.chains) (good_backs p.before ok.pairs)) (good_musts p.must ok.musts) in
      record {
        ends = λ i l. let g : Good (arc_at (network p).arcs i) = each_at Good (network p).arcs each i l in (g.0, g.1);
        none_into_source = λ i l. let g : Good (arc_at (network p).arcs i) = each_at Good (network p).arcs each i l in g.2;
        source_is_not_sink = λ (e : count ≡ count + 1). omega arith;
        source_is_node = omega arith;
      }

  module _ (has : ℕ → Bool) where
    abbrev node_count : ℕ → Bool
    node_count = with_source count has

    backed_from : (u : ℕ) (writers : List ℕ) → IsClosed p has → u < count → ((w : ℕ) → Contains writers w → w < count) → Neighbours p.before (u ∷ writers) → Backed node_count u writers
    backed_from u [] c l h n = tt
    backed_from u (w ∷ writers) c l h n =
        let m : w < count = h w (here w writers) in (
          (λ t. with_update count has u l ∙ c.before u w n.0 (sym (with_update count has w m) ∙ t)),
          backed_from w writers c m (λ x k. h x (there w x writers k)) n.1,
        )

    backed_chain : (writers : List ℕ) → IsClosed p has → ((w : ℕ) → Contains writers w → w < count) → Neighbours p.before writers → Backed node_count count writers
    backed_chain [] c h n = tt
    backed_chain (w ∷ writers) c h n =
        ((λ t. with_the_source count has), backed_from w writers c (h w (here w writers)) (λ x k. h x (there w x writers k)) n)

    across_chain : (chain : Chain) → IsClosed p has → IsChain p chain → cut_capacity node_count (path_arcs count (count + 1) chain.writers chain.costs) ≡ chain_cost has chain
    across_chain chain c good =
        links_in node_count (count + 1) count chain.writers chain.costs (with_the_source count has) (without_sink count has) (backed_chain chain.writers c good.writers good.neighbours) good.one_more
        ∙ ap (λ n. get_or chain.costs n 0) (version_same node_count has chain.writers (λ u k. with_update count has u (good.writers u k)))

    across_chains : (chains : List Chain) → IsClosed p has → ((chain : Chain) → Contains chains chain → IsChain p chain) → cut_capacity node_count (flat_map (arcs_of_chain count) chains) ≡ sum_by (chain_cost has) chains
    across_chains [] c h = refl
    across_chains (d ∷ chains) c h =
        omega (
          arith,
          across_append node_count (path_arcs count (count + 1) d.writers d.costs) (flat_map (arcs_of_chain count) chains),
          across_chain d c (h d (here d chains)),
          across_chains chains c (λ e k. h e (there d e chains k)),
          sum_by-cons (chain_cost has) d chains,
        )

    -- an unlimited arc does not cross
    abbrev Still : Arc → Type 0
    Still arc = leaves node_count arc ≡ true → IsFinite arc.capacity

    not_both : (x y : Bool) → (x ≡ true → y ≡ true) → (x && not y) ≡ false
    not_both true true k = refl
    not_both true false k = absurd (true≢false (sym (k refl)))
    not_both false y k = refl

    back_stays : (q : ℕ × ℕ) → IsClosed p has → Contains p.before q → leaves node_count (predecessor_arc q) ≡ false
    back_stays q c k =
        let ends : (q.0 < count) × (q.1 < count) = ok.pairs q.0 q.1 k in
        not_both (node_count q.1) (node_count q.0) (λ t. with_update count has q.0 ends.0 ∙ c.before q.0 q.1 k (sym (with_update count has q.1 ends.1) ∙ t))

    must_stays : (u : ℕ) → IsClosed p has → Contains p.must u → leaves node_count (must_arc count u) ≡ false
    must_stays u c k = not_both (node_count count) (node_count u) (λ t. with_update count has u (ok.musts u k) ∙ c.must u k)

    across_backs : (pairs : List (ℕ × ℕ)) → IsClosed p has → ((q : ℕ × ℕ) → Contains pairs q → Contains p.before q) → cut_capacity node_count (map predecessor_arc pairs) ≡ 0
    across_backs [] c h = refl
    across_backs (q ∷ pairs) c h =
        omega (arith, ap (λ b. pick b 0) (back_stays q c (h q (here q pairs))), across_backs pairs c (λ r k. h r (there q r pairs k)))

    across_musts : (us : List ℕ) → IsClosed p has → ((u : ℕ) → Contains us u → Contains p.must u) → cut_capacity node_count (map (must_arc count) us) ≡ 0
    across_musts [] c h = refl
    across_musts (u ∷ us) c h =
        omega (arith, ap (λ b. pick b 0) (must_stays u c (h u (here u us))), across_musts us c (λ w k. h w (there u w us k)))

    still_links : (from sink : ℕ) (writers costs : List ℕ) → Each Still (path_arcs from sink writers costs)
    still_links from sink [] [] = tt
    still_links from sink (w ∷ writers) [] = tt
    still_links from sink [] (c ∷ costs) = ((λ t. tt), tt)
    still_links from sink (w ∷ writers) (c ∷ costs) = ((λ t. tt), still_links w sink writers costs)

    still_chains : (chains : List Chain) → Each Still (flat_map (arcs_of_chain count) chains)
    still_chains [] = tt
    still_chains (d ∷ chains) = each_append Still (path_arcs count (count + 1) d.writers d.costs) (flat_map (arcs_of_chain count) chains) (still_links count (count + 1) d.writers d.costs) (still_chains chains)

    still_backs : (pairs : List (ℕ × ℕ)) → IsClosed p has → ((q : ℕ × ℕ) → Contains pairs q → Contains p.before q) → Each Still (map predecessor_arc pairs)
    still_backs [] c h = tt
    still_backs (q ∷ pairs) c h =
        ((λ t. absurd (true≢false (sym t ∙ back_stays q c (h q (here q pairs))))), still_backs pairs c (λ r k. h r (there q r pairs k)))

    still_musts : (us : List ℕ) → IsClosed p has → ((u : ℕ) → Contains us u → Contains p.must u) → Each Still (map (must_arc count) us)
    still_musts [] c h = tt
    still_musts (u ∷ us) c h =
        ((λ t. absurd (true≢false (sym t ∙ must_stays u c (h u (here u us))))), still_musts us c (λ w k. h w (there u w us k)))

    pub limited : IsClosed p has → HasFiniteCapacity node_count (network p).arcs
    limited c =
        each_at Still (network p).arcs
        (each_append Still (arcs_of_chains p ++ predecessor_arcs p) (must_arcs p)
        (each_append Still (arcs_of_chains p) (predecessor_arcs p) (still_chains p.chains) (still_backs p.before c (λ q k. k)))
        (still_musts p.must c (λ u k. k)))

    pub cost_across : IsClosed p has → cut_capacity node_count (network p).arcs ≡ cost p has
    cost_across c =
        omega (
          arith,
          across_append node_count (arcs_of_chains p ++ predecessor_arcs p) (must_arcs p),
          across_append node_count (arcs_of_chains p) (predecessor_arcs p),
          across_chains p.chains c ok.chains,
          across_backs p.before c (λ q k. k),
          across_musts p.must c (λ u k. k),
        )

    -- weak duality
    pub worth_le_cost : (flow : List ℕ) → IsFlow (network p) flow → is_closed p has ≡ true → worth (network p) flow ≤ cost p has
    worth_le_cost flow f closed =
        let c : IsClosed p has = closed_facts p has closed in
        omega (arith, cost_across c, weak (network p) is_network flow f node_count (with_the_source count has) (without_sink count has) (limited c))
