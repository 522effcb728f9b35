-- The meaning of the tests of a problem, for its parts and for a closed set.
use Rattle.std.proofs.Common.{◌*◌, ◌≡◌, ℕ, zero, suc, ◌+◌, ◌<◌, ◌≤◌, Bool, true, false, not, ◌&&◌, ◌||◌, eqb, ltb, leb, List, [], ◌∷◌, length, get_or, map, sum_by, Contains, refl, sym, ap, ◌∙◌, subst, arith, true≢false, inl, inr}
use Rattle.std.specs.List.{list_all, list_any}
use Rattle.std.proofs.lemmas.Bool.{and_parts, and_from, or_cases, ltb-true, leb-true, eqb-true, lt-ltb}
use Rattle.std.proofs.lemmas.List.{length-map}
use Rattle.esr_base.specs.declared.limits.TheConstants.{MAX_ITEMS, MAX_TRANSACTIONS}
use Rattle.esr_cert.specs.declared.range.TheConstants.{MAX_COST}
use Rattle.esr_cert.specs.Problem.{Chain, Problem, update_count, is_closed, is_strictly_ascending, pair_lt, are_pairs_ascending, has_pair, are_linked, is_distinct, chain_has_shape, has_valid_shape, greatest, chain_is_in_range, is_in_range, is_well_formed}
use Rattle.esr_cert.proofs.Distinct.{distinct_bounded, ascending_bounded, all_at}

pub here : {X : Type 0} → (x : X) (xs : List X) → Contains (x ∷ xs) x
here x xs = (0, omega arith, refl)

pub there : {X : Type 0} → (x y : X) (xs : List X) → Contains xs y → Contains (x ∷ xs) y
there x y xs (k, l, e) = (suc k, omega arith, e)

pub all_in : {X : Type 0} (p : X → Bool) (xs : List X) (x : X) → list_all p xs ≡ true → Contains xs x → p x ≡ true
all_in p [] x h (k, l, e) = absurd (omega arith)
all_in p (y ∷ ys) x h (zero, l, e) = ap p (sym e) ∙ (and_parts (p y) (list_all p ys) h).0
all_in p (y ∷ ys) x h (suc k, l, e) = all_in p ys x (and_parts (p y) (list_all p ys) h).1 (k, omega arith, e)

pub all_from : {X : Type 0} (p : X → Bool) (xs : List X) → ((x : X) → Contains xs x → p x ≡ true) → list_all p xs ≡ true
all_from p [] h = refl
all_from p (y ∷ ys) h = and_from (p y) (list_all p ys) (h y (here y ys)) (all_from p ys (λ x k. h x (there y x ys k)))

any_in : {X : Type 0} (p : X → Bool) (xs : List X) → list_any p xs ≡ true → (x : X) × Contains xs x × (p x ≡ true)
any_in p [] h = absurd (true≢false (sym h))
any_in p (y ∷ ys) h =
    let later : list_any p ys ≡ true → (x : _) × Contains (y ∷ ys) x × (p x ≡ true) = λ r. let z : (x : _) × Contains ys x × (p x ≡ true) = any_in p ys r in (z.0, there y z.0 ys z.1, z.2) in
    elim (or_cases (p y) (list_any p ys) h) [ inl e ↦ (y, here y ys, e) | inr r ↦ later r ]

-- ---- closed sets

pub record IsClosed (p : Problem) (has : ℕ → Bool) : Type 0 where
  pub before : (u v : ℕ) → Contains p.before (u, v) → has v ≡ true → has u ≡ true
  pub must : (u : ℕ) → Contains p.must u → has u ≡ true

imply : (x y : Bool) → (not x || y) ≡ true → x ≡ true → y ≡ true
imply true true h e = refl
imply true false h e = h
imply false y h e = cc

implied : (x y : Bool) → (x ≡ true → y ≡ true) → (not x || y) ≡ true
implied true y h = h refl
implied false y h = refl

pub closed_facts : (p : Problem) (has : ℕ → Bool) → is_closed p has ≡ true → IsClosed p has
closed_facts p has h =
    let both : (list_all (λ (e : ℕ × ℕ). not (has e.1) || has e.0) p.before ≡ true) × (list_all has p.must ≡ true) = and_parts _ _ h in
    record {
      before = λ u v k e. imply (has v) (has u) (all_in (λ (e : ℕ × ℕ). not (has e.1) || has e.0) p.before (u, v) both.0 k) e;
      must = λ u k. all_in has p.must u both.1 k;
    }

pub closed_from : (p : Problem) (has : ℕ → Bool) → IsClosed p has → is_closed p has ≡ true
closed_from p has c =
    and_from _ _
    (all_from (λ (e : ℕ × ℕ). not (has e.1) || has e.0) p.before (λ e k. implied (has e.1) (has e.0) (λ t. c.before e.0 e.1 k t)))
    (all_from has p.must c.must)

-- ---- sound problems

pub record HasShape (p : Problem) : Type 0 where
  pub distinct : is_distinct p.updates ≡ true
  pub pairs : are_pairs_ascending p.before ≡ true
  pub forward : list_all (λ (e : ℕ × ℕ). ltb e.0 e.1) p.before ≡ true
  pub items : is_strictly_ascending (map (λ (chain : Chain). chain.item) p.chains) ≡ true
  pub chains : list_all (chain_has_shape p.before) p.chains ≡ true
  pub must : is_strictly_ascending p.must ≡ true

pub shape_facts : (p : Problem) → has_valid_shape p ≡ true → HasShape p
shape_facts p h =
    let a : ((is_distinct p.updates && are_pairs_ascending p.before && list_all (λ (e : ℕ × ℕ). ltb e.0 e.1) p.before && is_strictly_ascending (map (λ (chain : Chain). chain.item) p.chains) && list_all (chain_has_shape p.before) p.chains) ≡ true) × (is_strictly_ascending p.must ≡ true) = and_parts _ _ h in
    let b : ((is_distinct p.updates && are_pairs_ascending p.before && list_all (λ (e : ℕ × ℕ). ltb e.0 e.1) p.before && is_strictly_ascending (map (λ (chain : Chain). chain.item) p.chains)) ≡ true) × (list_all (chain_has_shape p.before) p.chains ≡ true) = and_parts _ _ a.0 in
    let c : ((is_distinct p.updates && are_pairs_ascending p.before && list_all (λ (e : ℕ × ℕ). ltb e.0 e.1) p.before) ≡ true) × (is_strictly_ascending (map (λ (chain : Chain). chain.item) p.chains) ≡ true) = and_parts _ _ b.0 in
    let d : ((is_distinct p.updates && are_pairs_ascending p.before) ≡ true) × (list_all (λ (e : ℕ × ℕ). ltb e.0 e.1) p.before ≡ true) = and_parts _ _ c.0 in
    let e : (is_distinct p.updates ≡ true) × (are_pairs_ascending p.before ≡ true) = and_parts _ _ d.0 in
    record { distinct = e.0; pairs = e.1; forward = d.1; items = c.1; chains = b.1; must = a.1 }

pub record InRange (p : Problem) : Type 0 where
  pub numbers : list_all (λ t. ltb 0 t && leb t MAX_TRANSACTIONS) p.updates ≡ true
  pub chains : list_all (chain_is_in_range (update_count p)) p.chains ≡ true
  pub pairs : list_all (λ (e : ℕ × ℕ). ltb e.0 (update_count p) && ltb e.1 (update_count p)) p.before ≡ true
  pub must : list_all (λ u. ltb u (update_count p)) p.must ≡ true
  pub costs : leb (sum_by (λ (chain : Chain). greatest chain.costs) p.chains) MAX_COST ≡ true

pub range_facts : (p : Problem) → is_in_range p ≡ true → InRange p
range_facts p h =
    let a : ((list_all (λ t. ltb 0 t && leb t MAX_TRANSACTIONS) p.updates && list_all (chain_is_in_range (update_count p)) p.chains && list_all (λ (e : ℕ × ℕ). ltb e.0 (update_count p) && ltb e.1 (update_count p)) p.before && list_all (λ u. ltb u (update_count p)) p.must) ≡ true) × (leb (sum_by (λ (chain : Chain). greatest chain.costs) p.chains) MAX_COST ≡ true) = and_parts _ _ h in
    let b : ((list_all (λ t. ltb 0 t && leb t MAX_TRANSACTIONS) p.updates && list_all (chain_is_in_range (update_count p)) p.chains && list_all (λ (e : ℕ × ℕ). ltb e.0 (update_count p) && ltb e.1 (update_count p)) p.before) ≡ true) × (list_all (λ u. ltb u (update_count p)) p.must ≡ true) = and_parts _ _ a.0 in
    let c : ((list_all (λ t. ltb 0 t && leb t MAX_TRANSACTIONS) p.updates && list_all (chain_is_in_range (update_count p)) p.chains) ≡ true) × (list_all (λ (e : ℕ × ℕ). ltb e.0 (update_count p) && ltb e.1 (update_count p)) p.before ≡ true) = and_parts _ _ b.0 in
    let d : (list_all (λ t. ltb 0 t && leb t MAX_TRANSACTIONS) p.updates ≡ true) × (list_all (chain_is_in_range (update_count p)) p.chains ≡ true) = and_parts _ _ c.0 in
    record { numbers = d.0; chains = d.1; pairs = c.1; must = b.1; costs = a.1 }

-- each two neighbours are a pair
abbrev pub Neighbours : List (ℕ × ℕ) → List ℕ → Type 0
Neighbours before [] = Unit {0}
Neighbours before (u ∷ []) = Unit {0}
Neighbours before (u ∷ v ∷ writers) = Contains before (u, v) × Neighbours before (v ∷ writers)

pair_in : (before : List (ℕ × ℕ)) (u v : ℕ) → has_pair before u v ≡ true → Contains before (u, v)
pair_in before u v h =
    let found : (e : ℕ × ℕ) × Contains before e × ((eqb e.0 u && eqb e.1 v) ≡ true) = any_in (λ (e : ℕ × ℕ). eqb e.0 u && eqb e.1 v) before h in
    let both : (eqb (found.0).0 u ≡ true) × (eqb (found.0).1 v ≡ true) = and_parts _ _ found.2 in
    let same : found.0 ≡ (u, v) = let a : (found.0).0 ≡ u = eqb-true _ _ both.0 in let b : (found.0).1 ≡ v = eqb-true _ _ both.1 in let P : ℕ → ℕ × ℕ = λ x. (x, (found.0).1) in let Q : ℕ → ℕ × ℕ = λ y. (u, y) in ap P a ∙ ap Q b in
    subst (λ e. Contains before e) same found.1

neighbours_from : (before : List (ℕ × ℕ)) (writers : List ℕ) → are_linked before writers ≡ true → Neighbours before writers
neighbours_from before [] h = tt
neighbours_from before (u ∷ []) h = tt
neighbours_from before (u ∷ v ∷ writers) h =
    let both : (has_pair before u v ≡ true) × (are_linked before (v ∷ writers) ≡ true) = and_parts _ _ h in
    (pair_in before u v both.0, neighbours_from before (v ∷ writers) both.1)

pub record IsChain (p : Problem) (chain : Chain) : Type 0 where
  pub one_more : length chain.costs ≡ length chain.writers + 1
  pub ascending : is_strictly_ascending chain.writers ≡ true
  pub writers : (u : ℕ) → Contains chain.writers u → u < update_count p
  pub neighbours : Neighbours p.before chain.writers

-- the invariant of the type of problems
pub record IsProblem (p : Problem) : Type 0 where
  pub pairs : (u v : ℕ) → Contains p.before (u, v) → (u < update_count p) × (v < update_count p)
  pub musts : (u : ℕ) → Contains p.must u → u < update_count p
  pub chains : (chain : Chain) → Contains p.chains chain → IsChain p chain
  pub small : sum_by (λ chain. greatest chain.costs) p.chains ≤ MAX_COST

chain_facts : (p : Problem) (chain : Chain) → chain_has_shape p.before chain ≡ true → chain_is_in_range (update_count p) chain ≡ true → IsChain p chain
chain_facts p chain h r =
    let a : ((eqb (length chain.costs) (suc (length chain.writers)) && is_strictly_ascending chain.writers) ≡ true) × (are_linked p.before chain.writers ≡ true) = and_parts _ _ h in
    let b : (eqb (length chain.costs) (suc (length chain.writers)) ≡ true) × (is_strictly_ascending chain.writers ≡ true) = and_parts _ _ a.0 in
    let c : (ltb chain.item MAX_ITEMS ≡ true) × (list_all (λ w. ltb w (update_count p)) chain.writers ≡ true) = and_parts _ _ r in
    record {
      one_more = omega (arith, eqb-true _ _ b.0);
      ascending = b.1;
      writers = λ u k. ltb-true _ _ (all_in (λ w. ltb w (update_count p)) chain.writers u c.1 k);
      neighbours = neighbours_from p.before chain.writers a.1;
    }

pub facts : (p : Problem) → is_well_formed p ≡ true → IsProblem p
facts p h =
    let both : (has_valid_shape p ≡ true) × (is_in_range p ≡ true) = and_parts _ _ h in
    let s : HasShape p = shape_facts p both.0 in
    let r : InRange p = range_facts p both.1 in
    record {
      pairs = λ u v k. let e : (ltb u (update_count p) ≡ true) × (ltb v (update_count p) ≡ true) = and_parts _ _ (all_in (λ (e : ℕ × ℕ). ltb e.0 (update_count p) && ltb e.1 (update_count p)) p.before (u, v) r.pairs k) in (ltb-true _ _ e.0, ltb-true _ _ e.1);
      musts = λ u k. ltb-true _ _ (all_in (λ u. ltb u (update_count p)) p.must u r.must k);
      chains = λ chain k. chain_facts p chain (all_in (chain_has_shape p.before) p.chains chain s.chains k) (all_in (chain_is_in_range (update_count p)) p.chains chain r.chains k);
      small = leb-true _ _ r.costs;
    }

-- positions fit 16 bits
pub count_within_max : (p : Problem) → is_well_formed p ≡ true → update_count p ≤ 65535
count_within_max p h =
    let both : (has_valid_shape p ≡ true) × (is_in_range p ≡ true) = and_parts _ _ h in
    distinct_bounded MAX_TRANSACTIONS p.updates (shape_facts p both.0).distinct (range_facts p both.1).numbers

-- how many parts there are, so that their places fit 32 bits
pub record AreFew (p : Problem) : Type 0 where
  pub pairs : length p.before ≤ 4294967296
  pub chains : length p.chains ≤ 4096
  pub writers : (i : ℕ) (d : Chain) → i < length p.chains → length (get_or p.chains i d).writers ≤ 65535
  pub must : length p.must ≤ 65535

abbrev coded : ℕ × ℕ → ℕ
coded e = 65536 * e.0 + e.1

codes_ascend : (pairs : List (ℕ × ℕ)) → are_pairs_ascending pairs ≡ true → list_all (λ (e : ℕ × ℕ). ltb e.0 65536 && ltb e.1 65536) pairs ≡ true → is_strictly_ascending (map coded pairs) ≡ true
codes_ascend [] h r = refl
codes_ascend (a ∷ []) h r = refl
codes_ascend (a ∷ b ∷ pairs) h r =
    let both : (pair_lt a b ≡ true) × (are_pairs_ascending (b ∷ pairs) ≡ true) = and_parts (pair_lt a b) (are_pairs_ascending (b ∷ pairs)) h in
    let small : ((ltb a.0 65536 && ltb a.1 65536) ≡ true) × (list_all (λ (e : ℕ × ℕ). ltb e.0 65536 && ltb e.1 65536) (b ∷ pairs) ≡ true) = and_parts (ltb a.0 65536 && ltb a.1 65536) (list_all (λ (e : ℕ × ℕ). ltb e.0 65536 && ltb e.1 65536) (b ∷ pairs)) r in
    let second : a.1 < 65536 = ltb-true a.1 65536 (and_parts (ltb a.0 65536) (ltb a.1 65536) small.0).1 in
    and_from (ltb (coded a) (coded b)) (is_strictly_ascending (map coded (b ∷ pairs))) (lt-ltb (coded a) (coded b) (below second both.0)) (codes_ascend (b ∷ pairs) both.1 small.1)
  where
    below : a.1 < 65536 → pair_lt a b ≡ true → coded a < coded b
    below s h =
        elim (or_cases (ltb a.0 b.0) (eqb a.0 b.0 && ltb a.1 b.1) h) [
          | inl l ↦ omega (arith, ltb-true a.0 b.0 l)
          | inr r ↦ (let e : (eqb a.0 b.0 ≡ true) × (ltb a.1 b.1 ≡ true) = and_parts (eqb a.0 b.0) (ltb a.1 b.1) r in omega (arith, eqb-true a.0 b.0 e.0, ltb-true a.1 b.1 e.1))
        ]

pub are_bounded : (p : Problem) → is_well_formed p ≡ true → AreFew p
are_bounded p h =
    let both : (has_valid_shape p ≡ true) × (is_in_range p ≡ true) = and_parts _ _ h in
    let s : HasShape p = shape_facts p both.0 in
    let r : InRange p = range_facts p both.1 in
    let n : update_count p ≤ 65535 = count_within_max p h in
    let small : (e : ℕ × ℕ) → Contains p.before e → (ltb e.0 65536 && ltb e.1 65536) ≡ true =
    λ e k. let f : (ltb e.0 (update_count p) ≡ true) × (ltb e.1 (update_count p) ≡ true) = and_parts _ _ (all_in (λ (e : ℕ × ℕ). ltb e.0 (update_count p) && ltb e.1 (update_count p)) p.before e r.pairs k) in
    and_from (ltb e.0 65536) (ltb e.1 65536) (lt-ltb e.0 65536 (omega (arith, ltb-true e.0 (update_count p) f.0))) (lt-ltb e.1 65536 (omega (arith, ltb-true e.1 (update_count p) f.1))) in
    let in_bounds : list_all (λ (e : ℕ × ℕ). ltb e.0 65536 && ltb e.1 65536) p.before ≡ true = all_from (λ (e : ℕ × ℕ). ltb e.0 65536 && ltb e.1 65536) p.before small in
    record {
      pairs = omega (arith, ascending_bounded 4294967296 (map coded p.before) (codes_ascend p.before s.pairs in_bounds) (codes_small p.before in_bounds), length-map p.before coded);
      chains = omega (arith, ascending_bounded 4096 (map (λ (chain : Chain). chain.item) p.chains) s.items (items_small p.chains r.chains), length-map p.chains (λ (chain : Chain). chain.item));
      writers = λ i d l.
          let shape : chain_has_shape p.before (get_or p.chains i d) ≡ true = all_at (chain_has_shape p.before) p.chains s.chains i d l in
          let range : chain_is_in_range (update_count p) (get_or p.chains i d) ≡ true = all_at (chain_is_in_range (update_count p)) p.chains r.chains i d l in
          omega (arith, ascending_bounded (update_count p) (get_or p.chains i d).writers (chain_facts p (get_or p.chains i d) shape range).ascending (and_parts (ltb (get_or p.chains i d).item MAX_ITEMS) (list_all (λ w. ltb w (update_count p)) (get_or p.chains i d).writers) range).1);
      must = omega (arith, ascending_bounded (update_count p) p.must s.must r.must);
    }
  where
    codes_small : (pairs : List (ℕ × ℕ)) → list_all (λ (e : ℕ × ℕ). ltb e.0 65536 && ltb e.1 65536) pairs ≡ true → list_all (λ t. ltb t 4294967296) (map coded pairs) ≡ true
    codes_small [] k = refl
    codes_small (e ∷ pairs) k =
        let b : ((ltb e.0 65536 && ltb e.1 65536) ≡ true) × (list_all (λ (e : ℕ × ℕ). ltb e.0 65536 && ltb e.1 65536) pairs ≡ true) = and_parts (ltb e.0 65536 && ltb e.1 65536) (list_all (λ (e : ℕ × ℕ). ltb e.0 65536 && ltb e.1 65536) pairs) k in
        let f : (ltb e.0 65536 ≡ true) × (ltb e.1 65536 ≡ true) = and_parts (ltb e.0 65536) (ltb e.1 65536) b.0 in
        and_from (ltb (coded e) 4294967296) (list_all (λ t. ltb t 4294967296) (map coded pairs)) (lt-ltb (coded e) 4294967296 (omega (arith, ltb-true e.0 65536 f.0, ltb-true e.1 65536 f.1))) (codes_small pairs b.1)

    items_small : (chains : List Chain) → list_all (chain_is_in_range (update_count p)) chains ≡ true → list_all (λ t. ltb t 4096) (map (λ (chain : Chain). chain.item) chains) ≡ true
    items_small [] k = refl
    items_small (chain ∷ chains) k =
        let b : (chain_is_in_range (update_count p) chain ≡ true) × (list_all (chain_is_in_range (update_count p)) chains ≡ true) = and_parts (chain_is_in_range (update_count p) chain) (list_all (chain_is_in_range (update_count p)) chains) k in
        let f : (ltb chain.item MAX_ITEMS ≡ true) × (list_all (λ w. ltb w (update_count p)) chain.writers ≡ true) = and_parts (ltb chain.item MAX_ITEMS) (list_all (λ w. ltb w (update_count p)) chain.writers) b.0 in
        and_from (ltb chain.item 4096) (list_all (λ t. ltb t 4096) (map (λ (chain : Chain). chain.item) chains)) (lt-ltb chain.item 4096 (omega (arith, ltb-true chain.item MAX_ITEMS f.0))) (items_small chains b.1)

-- ---- positions are below the count of updates, read from the lists of the code
