-- Each path to the sink has a limited arc; sets as tests and as lists.
use Rattle.std.proofs.Common.{◌≡◌, ◌≢◌, ℕ, zero, suc, ◌+◌, ◌<◌, ◌≤◌, Bool, true, false, not, ◌&&◌, ◌||◌, cond, eqb, List, [], ◌∷◌, ◌++◌, length, get_or, sum_by, Contains, Option, Some, None, refl, sym, ap, ◌∙◌, inl, inr, arith, append-nil, eq-eqb, ne_eqb, true≢false, ltb, lt-ltb}
use Rattle.std.specs.List.{list_all}
use Rattle.std.proofs.lemmas.Bool.{cases_eq, cases_Bool, or_left, or_from, and_parts, and_from, ltb-true}
use Rattle.std.proofs.lemmas.List.Sums.{sum_by-cons}
use Rattle.esr_flow.specs.Types.{Arc, ResidualArc, Forward, Backward}
use Rattle.esr_cert.specs.Problem.{Chain, Problem, update_count, in_set, is_strictly_ascending, is_closed, chain_cost, cost, IsSmallestLeastCostSet}
use Rattle.esr_cert.specs.Network.{arc_at, network}
use Rattle.esr_cert.specs.Flow.{amount_at}
use Rattle.esr_cert.specs.Cut.{with_source, IsFinite, HasFiniteCapacity}
use Rattle.esr_cert.proofs.Sound.{here, there, IsClosed, IsChain, IsProblem, closed_facts, closed_from}
use Rattle.esr_cert.proofs.Least.{with_the_source, without_sink, limited, version_same}
use Rattle.esr_flow.specs.Residual.{left_of, finish, residual_capacity, bottleneck, smaller, IsPath}
use Rattle.esr_cert.specs.ResidualArcs.{arc_of, start}
use Rattle.esr_flow.specs.Maximum.{HasLimit}
use Rattle.esr_flow.specs.Members.{members_below}

none_parts : (a b : Option ℕ) → smaller a b ≡ None → (a ≡ None) × (b ≡ None)
none_parts None b h = (refl, h)
none_parts (Some a) None h = cc
none_parts (Some a) (Some b) h = cc

-- a step with no limit does not leave a set that only limited arcs leave
unlimited_stays : (arcs : List Arc) (flow : List ℕ) (has : ℕ → Bool) → HasFiniteCapacity has arcs → (s : ResidualArc) → arc_of s < length arcs → residual_capacity arcs flow s ≡ None → has (start arcs s) ≡ true → has (finish arcs s) ≡ true
unlimited_stays arcs flow has limited (Forward i) l e h =
    elim (cases_Bool (has (arc_at arcs i).to)) [
      | inl t ↦ t
      | inr f ↦ absurd (no_limit (arc_at arcs i).capacity (limited i l (crossing (has (arc_at arcs i).from) (has (arc_at arcs i).to) h f)) e)
    ]
  where
    crossing : (b c : Bool) → b ≡ true → c ≡ false → (b && not c) ≡ true
    crossing true false p q = refl
    crossing true true p q = cc
    crossing false c p q = cc

    no_limit : (o : Option ℕ) → IsFinite o → left_of o (amount_at flow i) ≡ None → ⊥
    no_limit None l e = l
    no_limit (Some c) l e = cc
unlimited_stays arcs flow has limited (Backward i) l e h = cc

unlimited_path : (arcs : List Arc) (flow : List ℕ) (has : ℕ → Bool) → HasFiniteCapacity has arcs → (path : List ResidualArc) (a b : ℕ) → IsPath arcs flow a path b → bottleneck arcs flow path ≡ None → has a ≡ true → has b ≡ true
unlimited_path arcs flow has limited [] a b h e t = sym (ap has h) ∙ t
unlimited_path arcs flow has limited (s ∷ path) a b h e t =
    let p : (residual_capacity arcs flow s ≡ None) × (bottleneck arcs flow path ≡ None) = none_parts (residual_capacity arcs flow s) (bottleneck arcs flow path) e in
    unlimited_path arcs flow has limited path (finish arcs s) b h.2 p.1 (unlimited_stays arcs flow has limited s h.1.0 p.0 (ap has h.0 ∙ t))

pub has_limit : (p : Problem) → IsProblem p → HasLimit (network p)
has_limit p ok flow path h e =
    let all : IsClosed p (λ u. true) = record { before = λ u v c t. refl; must = λ u c. refl } in
    let at : with_source (update_count p) (λ u. true) (update_count p + 1) ≡ true =
    unlimited_path (network p).arcs flow (with_source (update_count p) (λ u. true)) (limited p ok (λ u. true) all) path (update_count p) (update_count p + 1) h e (with_the_source (update_count p) (λ u. true)) in
    true≢false (sym at ∙ without_sink (update_count p) (λ u. true))

-- two tests that agree on the updates
cost_same : (p : Problem) → IsProblem p → (f g : ℕ → Bool) → ((u : ℕ) → u < update_count p → f u ≡ g u) → (chains : List Chain) → ((chain : Chain) → Contains chains chain → IsChain p chain) → sum_by (chain_cost f) chains ≡ sum_by (chain_cost g) chains
cost_same p ok f g e [] h = refl
cost_same p ok f g e (c ∷ chains) h =
    let this : chain_cost f c ≡ chain_cost g c = ap (λ n. get_or c.costs n 0) (version_same f g c.writers (λ u k. e u ((h c (here c chains)).writers u k))) in
    omega (arith, sum_by-cons (chain_cost f) c chains, sum_by-cons (chain_cost g) c chains, cost_same p ok f g e chains (λ d k. h d (there c d chains k)))

pub same_cost : (p : Problem) → IsProblem p → (f g : ℕ → Bool) → ((u : ℕ) → u < update_count p → f u ≡ g u) → cost p f ≡ cost p g
same_cost p ok f g e = cost_same p ok f g e p.chains ok.chains

pub closed_same : (p : Problem) → IsProblem p → (f g : ℕ → Bool) → ((u : ℕ) → u < update_count p → f u ≡ g u) → is_closed p f ≡ true → is_closed p g ≡ true
closed_same p ok f g e closed =
    let was : IsClosed p f = closed_facts p f closed in
    closed_from p g (record {
      before = λ u v c h.
          let ends : (u < update_count p) × (v < update_count p) = ok.pairs u v c in
          sym (e u ends.0) ∙ was.before u v c (e v ends.1 ∙ h);
      must = λ u c. sym (e u (ok.musts u c)) ∙ was.must u c;
    })

pub smallest_same : (p : Problem) → IsProblem p → (f g : ℕ → Bool) → ((u : ℕ) → u < update_count p → f u ≡ g u) → IsSmallestLeastCostSet p f → IsSmallestLeastCostSet p g
smallest_same p ok f g e s =
    let same : cost p f ≡ cost p g = same_cost p ok f g e in
    record {
      closed = closed_same p ok f g e s.closed;
      least = λ other c. omega (arith, s.least other c, same);
      smallest = λ other c l u m h. s.smallest other c (omega (arith, same)) u m (e u m ∙ h);
    }

in_set_append : (xs ys : List ℕ) (v : ℕ) → in_set (xs ++ ys) v ≡ (in_set xs v || in_set ys v)
in_set_append [] ys v = refl
in_set_append (x ∷ xs) ys v = ap (λ b. eqb x v || b) (in_set_append xs ys v) ∙ sym (or_assoc (eqb x v) (in_set xs v) (in_set ys v))
  where
    or_assoc : (a b c : Bool) → ((a || b) || c) ≡ (a || (b || c))
    or_assoc true b c = refl
    or_assoc false b c = refl

positions_past : (has : ℕ → Bool) (n v : ℕ) → n ≤ v → in_set (members_below has n) v ≡ false
positions_past has zero v l = refl
positions_past has (suc n) v l =
    in_set_append (members_below has n) (cond (has n) (n ∷ []) []) v
    ∙ or_from (in_set (members_below has n) v) (in_set (cond (has n) (n ∷ []) []) v) (positions_past has n v (omega arith)) (last (has n))
  where
    last : (b : Bool) → in_set (cond b (n ∷ []) []) v ≡ false
    last true = or_from (eqb n v) false (ne_eqb n v (λ (e : n ≡ v). omega arith)) refl
    last false = refl

-- the list contains exactly the positions that pass
pub positions_at : (has : ℕ → Bool) (n v : ℕ) → v < n → in_set (members_below has n) v ≡ has v
positions_at has zero v l = absurd (omega arith)
positions_at has (suc n) v l =
    let below : v < n → in_set (members_below has n) v ≡ has v = λ k. positions_at has n v k in
    in_set_append (members_below has n) (cond (has n) (n ∷ []) []) v ∙
    elim (cases_eq v n) [
      | inl e ↦ ap (λ b. b || in_set (cond (has n) (n ∷ []) []) v) (positions_past has n v (omega arith)) ∙ last_here (has n) e ∙ sym (ap has e)
      | inr ne ↦ ap (λ b. in_set (members_below has n) v || b) (last_not (has n) ne) ∙ or_false (in_set (members_below has n) v) ∙ below (omega arith)
    ]
  where
    last_here : (b : Bool) → v ≡ n → in_set (cond b (n ∷ []) []) v ≡ b
    last_here true e = or_left (eqb n v) false (eq-eqb n v (sym e))
    last_here false e = refl

    last_not : (b : Bool) → v ≢ n → in_set (cond b (n ∷ []) []) v ≡ false
    last_not true ne = or_from (eqb n v) false (ne_eqb n v (λ e. ne (sym e))) refl
    last_not false ne = refl

    or_false : (b : Bool) → (b || false) ≡ b
    or_false true = refl
    or_false false = refl

all_less : (xs : List ℕ) (n : ℕ) → list_all (λ x. ltb x n) xs ≡ true → list_all (λ x. ltb x (suc n)) xs ≡ true
all_less [] n h = refl
all_less (x ∷ xs) n h =
    let both : (ltb x n ≡ true) × (list_all (λ x. ltb x n) xs ≡ true) = and_parts (ltb x n) (list_all (λ x. ltb x n) xs) h in
    and_from (ltb x (suc n)) (list_all (λ x. ltb x (suc n)) xs) (lt-ltb x (suc n) (omega (arith, ltb-true x n both.0))) (all_less xs n both.1)

all_push : (xs : List ℕ) (n m : ℕ) → list_all (λ x. ltb x m) xs ≡ true → n < m → list_all (λ x. ltb x m) (xs ++ n ∷ []) ≡ true
all_push [] n m h l = and_from (ltb n m) true (lt-ltb n m l) refl
all_push (x ∷ xs) n m h l =
    let both : (ltb x m ≡ true) × (list_all (λ x. ltb x m) xs ≡ true) = and_parts (ltb x m) (list_all (λ x. ltb x m) xs) h in
    and_from (ltb x m) (list_all (λ x. ltb x m) (xs ++ n ∷ [])) both.0 (all_push xs n m both.1 l)

pub positions_below : (has : ℕ → Bool) (n : ℕ) → list_all (λ x. ltb x n) (members_below has n) ≡ true
positions_below has zero = refl
positions_below has (suc n) = go (has n) (all_less (members_below has n) n (positions_below has n))
  where
    go : (b : Bool) → list_all (λ x. ltb x (suc n)) (members_below has n) ≡ true → list_all (λ x. ltb x (suc n)) (members_below has n ++ cond b (n ∷ []) []) ≡ true
    go true h = all_push (members_below has n) n (suc n) h (omega arith)
    go false h = ap (list_all (λ x. ltb x (suc n))) (append-nil (members_below has n)) ∙ h

ascending_push : (xs : List ℕ) (n : ℕ) → is_strictly_ascending xs ≡ true → list_all (λ x. ltb x n) xs ≡ true → is_strictly_ascending (xs ++ n ∷ []) ≡ true
ascending_push [] n a b = refl
ascending_push (x ∷ []) n a b = and_from (ltb x n) true (and_parts (ltb x n) true b).0 refl
ascending_push (x ∷ y ∷ rest) n a b =
    let up : (ltb x y ≡ true) × (is_strictly_ascending (y ∷ rest) ≡ true) = and_parts (ltb x y) (is_strictly_ascending (y ∷ rest)) a in
    let below : (ltb x n ≡ true) × (list_all (λ x. ltb x n) (y ∷ rest) ≡ true) = and_parts (ltb x n) (list_all (λ x. ltb x n) (y ∷ rest)) b in
    and_from (ltb x y) (is_strictly_ascending ((y ∷ rest) ++ n ∷ [])) up.0 (ascending_push (y ∷ rest) n up.1 below.1)

pub positions_ascend : (has : ℕ → Bool) (n : ℕ) → is_strictly_ascending (members_below has n) ≡ true
positions_ascend has zero = refl
positions_ascend has (suc n) = go (has n) (positions_ascend has n)
  where
    go : (b : Bool) → is_strictly_ascending (members_below has n) ≡ true → is_strictly_ascending (members_below has n ++ cond b (n ∷ []) []) ≡ true
    go true h = ascending_push (members_below has n) n h (positions_below has n)
    go false h = ap is_strictly_ascending (append-nil (members_below has n)) ∙ h
