-- The smallest set of least cost of a problem is that of the query that it represents.
use Rattle.std.proofs.Common.{◌≡◌, ℕ, zero, suc, ◌<◌, ◌≤◌, Bool, true, false, ◌&&◌, ◌||◌, eqb, List, [], ◌∷◌, length, refl, sym, ap, ◌∙◌, subst, inl, inr, arith, Option, Some, None, IsTrue}
use Rattle.std.specs.List.{filter_map, cons_option, slice_get, AllByRecursion}
use Rattle.std.proofs.Math.Path.{fun_ext}
use Rattle.std.proofs.lemmas.Bool.{cases_eq, eq-eqb, ne_eqb, eqb-true, false≢true, and_parts, and_from, or_left, or_right, or_cases}
use Rattle.std.proofs.lemmas.Option.{same_Some}
use Rattle.std.proofs.lemmas.List.Elements.{All-from_recursion}
use mathlib.Core.Bool.{and-true}
use Rattle.esr_history.specs.Machine.{DistanceFunction, Schedule}
use Rattle.esr_history.specs.Operations.{Operation}
use Rattle.esr_history.specs.Queries.{updates_committed_before, reads_by, cost}
use Rattle.esr_history.proofs.Membership.{each_in}
use Rattle.esr_order.specs.Placements.{is_among, IsClosed, IsLeastSet, IsSmallestLeastSet}
use Rattle.esr_cert.specs.Problem as problems
use Rattle.esr_cert.specs.Problem.{Problem, update_count, is_closed, IsSmallestLeastCostSet}
use Rattle.esr_cert.proofs.Sound as sound
use Rattle.esr_cert.proofs.Sound.{IsProblem}
use Rattle.esr_audit.specs.Problems.{passes_at, IsProblemOf}
use Rattle.esr_audit.proofs.Costs.{cost_is_distance}

-- a member has a place
pub place_of : (us : List ℕ) (u : ℕ) → is_among us u ≡ true → (i : ℕ) × (i < length us) × (slice_get us i ≡ Some u)
place_of [] u h = absurd (false≢true h)
place_of (v ∷ us) u h =
    let rest : is_among us u ≡ true → (i : ℕ) × (i < length us) × (slice_get us i ≡ Some u) = place_of us u in
    elim (cases_eq v u) [
      | inl e ↦ (0, omega arith, ap Some e)
      | inr ne ↦ let r = rest (sym (ap (λ b. b || is_among us u) (ne_eqb v u ne)) ∙ h) in (suc r.0, omega (arith, r.1), r.2)
    ]

pub passes_here : (us : List ℕ) (S : ℕ → Bool) (i u : ℕ) → slice_get us i ≡ Some u → passes_at us S i ≡ S u
passes_here us S i u e = ap (λ (o : Option ℕ). elim o [ Some t ↦ S t | None ↦ false ]) e

pub element : (us : List ℕ) (i : ℕ) → i < length us → (u : ℕ) × (slice_get us i ≡ Some u)
element [] i l = absurd (omega arith)
element (u ∷ us) zero l = (u, refl)
element (u ∷ us) (suc i) l = element us i (omega arith)

module _ (d : DistanceFunction) (h : Schedule) (q : ℕ) (p : Problem) (is_problem : IsProblemOf d h q p) (ok : IsProblem p) (inside : AllByRecursion (λ (o : Operation). o.item < length h.opening) (reads_by h q)) where
  whole_passes : (i : ℕ) → i < update_count p → passes_at p.updates (λ u. true) i ≡ true
  whole_passes i l = let e = element p.updates i l in passes_here p.updates (λ u. true) i e.0 e.1

  whole_closed : is_closed p (passes_at p.updates (λ u. true)) ≡ true
  whole_closed =
      sound.closed_from p (passes_at p.updates (λ u. true)) (record {
        before = λ u v c t. whole_passes u (ok.pairs u v c).0;
        must = λ u c. whole_passes u (ok.musts u c);
      })

  -- the problem's updates are a closed set
  updates_closed : IsClosed h q (λ u. is_among p.updates u && true)
  updates_closed = (is_problem.closed (λ u. true)).0 whole_closed

  part_closed : (T : ℕ → Bool) → IsClosed h q T → IsClosed h q (λ u. is_among p.updates u && T u)
  part_closed T c = record {
    downward = λ u v cu cv b t.
        let both : (is_among p.updates v ≡ true) × (T v ≡ true) = and_parts (is_among p.updates v) (T v) t in
        and_from (is_among p.updates u) (T u) (sym (and-true (is_among p.updates u)) ∙ updates_closed.downward u v cu cv b (and-true (is_among p.updates v) ∙ both.0)) (c.downward u v cu cv b both.1);
    holds_must = λ u m. and_from (is_among p.updates u) (T u) (sym (and-true (is_among p.updates u)) ∙ updates_closed.holds_must u m) (c.holds_must u m);
  }

  within_updates : (S : ℕ → Bool) → ((u : ℕ) → S u ≡ true → is_among p.updates u ≡ true) → (λ u. is_among p.updates u && S u) ≡ S
  within_updates S known = fun_ext (λ u. at (S u) (is_among p.updates u) (known u))
    where
      at : (s m : Bool) → (s ≡ true → m ≡ true) → (m && s) ≡ s
      at true m k = ap (λ b. b && true) (k refl)
      at false true k = refl
      at false false k = refl

  -- a closed set of the problem that no other is cheaper than is a least set of the query
  pub closed_is_least : (S : ℕ → Bool) → ((u : ℕ) → S u ≡ true → is_among p.updates u ≡ true) → is_closed p (passes_at p.updates S) ≡ true
      → ((has : ℕ → Bool) → is_closed p has ≡ true → problems.cost p (passes_at p.updates S) ≤ problems.cost p has) → IsLeastSet d h q S
  closed_is_least S known closed least = record {
    closed = subst (IsClosed h q) (within_updates S known) ((is_problem.closed S).0 closed);
    none_less = λ T c.
        let l = least (passes_at p.updates T) ((is_problem.closed T).1 (part_closed T c)) in
        omega (arith, l, cost_is_distance d h q p is_problem inside S, cost_is_distance d h q p is_problem inside T);
  }

  pub smallest_is_least : (S : ℕ → Bool) → ((u : ℕ) → S u ≡ true → is_among p.updates u ≡ true) → IsSmallestLeastCostSet p (passes_at p.updates S) → IsSmallestLeastSet d h q S
  smallest_is_least S known s = record {
    least = least;
    smallest = λ T t. All-from_recursion (λ u. IsTrue (S u) → IsTrue (T u)) (updates_committed_before h q) (each_in (λ u. IsTrue (S u) → IsTrue (T u)) (updates_committed_before h q) (λ u i su. contained T t u su));
  }
    where
      least : IsLeastSet d h q S
      least = closed_is_least S known s.closed s.least

      contained : (T : ℕ → Bool) → IsLeastSet d h q T → (u : ℕ) → S u ≡ true → T u ≡ true
      contained T t u su =
          let at : (i : ℕ) × (i < length p.updates) × (slice_get p.updates i ≡ Some u) = place_of p.updates u (known u su) in
          let cheap : cost d h q T ≤ cost d h q S = t.none_less S least.closed in
          let dear : problems.cost p (passes_at p.updates T) ≤ problems.cost p (passes_at p.updates S) = omega (arith, cheap, cost_is_distance d h q p is_problem inside S, cost_is_distance d h q p is_problem inside T) in
          sym (passes_here p.updates T at.0 u at.2) ∙ s.smallest (passes_at p.updates T) ((is_problem.closed T).1 (part_closed T t.closed)) dear at.0 at.1 (passes_here p.updates S at.0 u at.2 ∙ su)

-- ---- the transactions at a list of positions

pub among_element : (us : List ℕ) (i u : ℕ) → slice_get us i ≡ Some u → is_among us u ≡ true
among_element [] i u e = absurd (cc)
among_element (v ∷ us) zero u e = or_left (eqb v u) (is_among us u) (eq-eqb v u (same_Some v u e))
among_element (v ∷ us) (suc i) u e = or_right (eqb v u) (is_among us u) (among_element us i u e)

pub known_at : (us : List ℕ) (set : List ℕ) (u : ℕ) → is_among (filter_map (slice_get us) set) u ≡ true → is_among us u ≡ true
known_at us [] u h = absurd (false≢true h)
known_at us (i ∷ set) u h = at (slice_get us i) refl (known_at us set u) h
  where
    at : (o : Option ℕ) → slice_get us i ≡ o → (is_among (filter_map (slice_get us) set) u ≡ true → is_among us u ≡ true) → is_among (cons_option o (filter_map (slice_get us) set)) u ≡ true → is_among us u ≡ true
    at None e rest h = rest h
    at (Some v) e rest h =
        elim (or_cases (eqb v u) (is_among (filter_map (slice_get us) set) u) h) [
          | inl s ↦ ap (is_among us) (sym (eqb-true v u s)) ∙ among_element us i v e
          | inr r ↦ rest r
        ]
