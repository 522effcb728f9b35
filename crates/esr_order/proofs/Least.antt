-- The set that is listed as the smallest closed set of least cost is that set.
use Rattle.std.proofs.Common.{◌≡◌, ℕ, ◌≤◌, Bool, true, false, not, ◌||◌, List, [], ◌∷◌, refl, sym, ◌∙◌, ap, subst, inl, inr, ⊎_elim, filter, map, Contains, nat_le, IsTrue, if◌then◌else◌}
use Rattle.std.specs.List.{list_all}
use Rattle.std.proofs.lemmas.Bool.{true≢false, cond_both, cases_Bool, and_parts, and_from, or_cases, or_left, or_right, not-true, not_from_false, false_from_ne_true, le-leb, leb-true}
use Rattle.std.proofs.lemmas.List.Elements.{recursion_from_All}
use Rattle.esr_history.specs.Machine.{DistanceFunction, Schedule, accepted_in}
use Rattle.esr_history.specs.Events.{is_committed, accepted}
use Rattle.esr_history.specs.Serial.{is_before, state}
use Rattle.esr_history.specs.Queries.{updates_committed_before, must, is_strict, before_begin, distance_from, members, cost}
use Rattle.esr_history.proofs.Membership.{In, In-Contains, Contains-In, In-append_cases, In-append_left, In-append_right, In-filter, In-of_filter, In-from_any, any-from_number, each_at, filter_agree_in}
use Rattle.esr_order.specs.Placements.{is_among, IsClosed, IsLeastSet, IsSmallestLeastSet}
use Rattle.esr_order.specs.Least.{parts, is_closed_part, closed_parts, is_least_part, least_parts, nearest_placement}
use Rattle.esr_order.specs.Statements.{LawOfListedSets}

all_at : {X : Type 0} (p : X → Bool) (xs : List X) (x : X) → list_all p xs ≡ true → In x xs → p x ≡ true
all_at p [] x a i = absurd i
all_at p (y ∷ ys) x a i =
    let both : (p y ≡ true) × (list_all p ys ≡ true) = and_parts (p y) (list_all p ys) a in
    ⊎_elim (λ e. ap p (sym e) ∙ both.0) (λ j. all_at p ys x both.1 j) i

all_from : {X : Type 0} (p : X → Bool) (xs : List X) → ((x : X) → In x xs → p x ≡ true) → list_all p xs ≡ true
all_from p [] f = refl
all_from p (y ∷ ys) f = and_from (p y) (list_all p ys) (f y (inl refl)) (all_from p ys (λ x i. f x (inr i)))

-- ---- the parts of a list

in_onto : (u : ℕ) (p : List ℕ) (ps : List (List ℕ)) → In p ps → In (u ∷ p) (map (λ part. u ∷ part) ps)
in_onto u p [] i = absurd i
in_onto u p (o ∷ ps) i = ⊎_elim (λ e. inl (ap (λ part. u ∷ part) e)) (λ j. inr (in_onto u p ps j)) i

of_onto : (u : ℕ) (p : List ℕ) (ps : List (List ℕ)) → In p (map (λ part. u ∷ part) ps) → (o : List ℕ) × In o ps × ((u ∷ o) ≡ p)
of_onto u p [] i = absurd i
of_onto u p (o ∷ ps) i = ⊎_elim (λ e. (o, inl refl, e)) (λ j. let r = of_onto u p ps j in (r.0, inr r.1, r.2)) i

part_listed : (S : ℕ → Bool) (us : List ℕ) → In (filter S us) (parts us)
part_listed S [] = inl refl
part_listed S (u ∷ us) =
    cond_both (S u) (u ∷ filter S us) (filter S us) (λ p. In p (parts (u ∷ us)))
    (λ _. In-append_left (map (λ part. u ∷ part) (parts us)) (parts us) (u ∷ filter S us) (in_onto u (filter S us) (parts us) (part_listed S us)))
    (λ _. In-append_right (map (λ part. u ∷ part) (parts us)) (parts us) (filter S us) (part_listed S us))

pub part_within : (us p : List ℕ) (u : ℕ) → In p (parts us) → In u p → In u us
part_within [] p u i j = absurd (⊎_elim (λ e. subst (In u) (sym e) j) (λ none. none) i)
part_within (v ∷ us) p u i j =
    ⊎_elim
    (λ a. let r = of_onto v p (parts us) a in ⊎_elim (λ e. inl e) (λ k. inr (part_within us r.0 u r.1 k)) (subst (In u) (sym r.2) j))
    (λ b. inr (part_within us p u b j))
    (In-append_cases (map (λ part. v ∷ part) (parts us)) (parts us) p i)

-- the sublist of a set's members contains the same elements of the list as the set
among_part : (S : ℕ → Bool) (us : List ℕ) (u : ℕ) → In u us → is_among (filter S us) u ≡ S u
among_part S us u i =
    ⊎_elim
    (λ t. any-from_number (filter S us) u (In-filter S us u i t) ∙ sym t)
    (λ f. false_from_ne_true (is_among (filter S us) u) (λ t. true≢false (sym (In-of_filter S us u (In-from_any (filter S us) u t)).1 ∙ f)) ∙ sym f)
    (cases_Bool (S u))

-- ---- the closed sets of a query

module _ (h : Schedule) (q : ℕ) where
  pub must_in : (u : ℕ) → Contains (must h q) u → In u (updates_committed_before h q)
  must_in u = at (is_strict (accepted_in h) q)
    where
      early : List ℕ
      early = filter (is_committed (accepted (before_begin h q))) (updates_committed_before h q)

      at : (b : Bool) → Contains (if b then early else []) u → In u (updates_committed_before h q)
      at true m = (In-of_filter (is_committed (accepted (before_begin h q))) (updates_committed_before h q) u (Contains-In early u m)).0
      at false m = absurd (Contains-In [] u m)

  closed_set : (p : List ℕ) → is_closed_part h q p ≡ true → IsClosed h q (is_among p)
  closed_set p c =
      let both = and_parts (list_all (λ v. list_all (λ u. not (is_before h u v) || is_among p u) (updates_committed_before h q)) p) (list_all (is_among p) (must h q)) c in
      record {
        downward = λ u v cu cv b t.
            let below = all_at (λ w. list_all (λ u. not (is_before h u w) || is_among p u) (updates_committed_before h q)) p v both.0 (In-from_any p v t) in
            let here = all_at (λ u. not (is_before h u v) || is_among p u) (updates_committed_before h q) u below (Contains-In (updates_committed_before h q) u cu) in
            ⊎_elim (λ no. absurd (true≢false (sym b ∙ not-true (is_before h u v) no))) (λ s. s) (or_cases (not (is_before h u v)) (is_among p u) here);
        holds_must = λ u m. all_at (is_among p) (must h q) u both.1 (Contains-In (must h q) u m);
      }

  closed_part : (p : List ℕ) → In p (parts (updates_committed_before h q)) → IsClosed h q (is_among p) → is_closed_part h q p ≡ true
  closed_part p i c =
      and_from (list_all (λ v. list_all (λ u. not (is_before h u v) || is_among p u) (updates_committed_before h q)) p) (list_all (is_among p) (must h q))
      (all_from (λ v. list_all (λ u. not (is_before h u v) || is_among p u) (updates_committed_before h q)) p (λ v iv.
      all_from (λ u. not (is_before h u v) || is_among p u) (updates_committed_before h q) (λ u iu.
      ⊎_elim
      (λ b. or_right (not (is_before h u v)) (is_among p u)
      (c.downward u v (In-Contains (updates_committed_before h q) u iu) (In-Contains (updates_committed_before h q) v (part_within (updates_committed_before h q) p v i iv)) b (any-from_number p v iv)))
      (λ f. or_left (not (is_before h u v)) (is_among p u) (not_from_false (is_before h u v) f))
      (cases_Bool (is_before h u v)))))
      (all_from (is_among p) (must h q) (λ u m. c.holds_must u (In-Contains (must h q) u m)))

  part_closed : (S : ℕ → Bool) → IsClosed h q S → IsClosed h q (is_among (members h q S))
  part_closed S c = record {
    downward = λ u v cu cv b t.
        among_part S (updates_committed_before h q) u (Contains-In (updates_committed_before h q) u cu)
        ∙ c.downward u v cu cv b (sym (among_part S (updates_committed_before h q) v (Contains-In (updates_committed_before h q) v cv)) ∙ t);
    holds_must = λ u m. among_part S (updates_committed_before h q) u (must_in u m) ∙ c.holds_must u m;
  }

  part_in : (S : ℕ → Bool) → IsClosed h q S → In (members h q S) (closed_parts h q)
  part_in S c =
      let i : In (members h q S) (parts (updates_committed_before h q)) = part_listed S (updates_committed_before h q) in
      In-filter (is_closed_part h q) (parts (updates_committed_before h q)) (members h q S) i (closed_part (members h q S) i (part_closed S c))

  members_same : (S : ℕ → Bool) → members h q (is_among (members h q S)) ≡ members h q S
  members_same S = filter_agree_in (is_among (members h q S)) S (updates_committed_before h q) (among_part S (updates_committed_before h q))

  cost_same : (d : DistanceFunction) (S : ℕ → Bool) → cost d h q (is_among (members h q S)) ≡ cost d h q S
  cost_same d S = ap (λ us. distance_from d h q (state h us)) (members_same S)

  least_of : (d : DistanceFunction) (p : List ℕ) → In p (least_parts d h q) → IsLeastSet d h q (is_among p)
  least_of d p i =
      let least = In-of_filter (is_least_part d h q) (closed_parts h q) p i in
      let closed = In-of_filter (is_closed_part h q) (parts (updates_committed_before h q)) p least.0 in
      record {
        closed = closed_set p closed.1;
        none_less = λ T c.
            let no_less = leb-true (cost d h q (is_among p)) (cost d h q (is_among (members h q T)))
            (all_at (λ other. nat_le (cost d h q (is_among p)) (cost d h q (is_among other))) (closed_parts h q) (members h q T) least.1 (part_in T c)) in
            subst (λ n. cost d h q (is_among p) ≤ n) (cost_same d T) no_less;
      }

  least_in : (d : DistanceFunction) (S : ℕ → Bool) → IsLeastSet d h q S → In (members h q S) (least_parts d h q)
  least_in d S l =
      In-filter (is_least_part d h q) (closed_parts h q) (members h q S) (part_in S l.closed)
      (all_from (λ other. nat_le (cost d h q (is_among (members h q S))) (cost d h q (is_among other))) (closed_parts h q) (λ other i.
      let closed = In-of_filter (is_closed_part h q) (parts (updates_committed_before h q)) other i in
      le-leb (cost d h q (is_among (members h q S))) (cost d h q (is_among other))
      (subst (λ n. n ≤ cost d h q (is_among other)) (sym (cost_same d S)) (l.none_less (is_among other) (closed_set other closed.1)))))

  smallest_listed : (d : DistanceFunction) (S : ℕ → Bool) → IsSmallestLeastSet d h q S → members h q S ≡ nearest_placement d h q
  smallest_listed d S s =
      filter_agree_in S (λ u. list_all (λ part. is_among part u) (least_parts d h q)) (updates_committed_before h q) (λ u i.
      ⊎_elim
      (λ t. t ∙ sym (all_from (λ part. is_among part u) (least_parts d h q) (λ p ip.
      each_at (λ v. IsTrue (S v) → IsTrue (is_among p v)) (updates_committed_before h q) u
      (recursion_from_All (λ v. IsTrue (S v) → IsTrue (is_among p v)) (updates_committed_before h q) (s.smallest (is_among p) (least_of d p ip))) i t)))
      (λ f. f ∙ sym (false_from_ne_true (list_all (λ part. is_among part u) (least_parts d h q)) (λ a.
      true≢false (sym (all_at (λ part. is_among part u) (least_parts d h q) (members h q S) a (least_in d S s.least)) ∙ (among_part S (updates_committed_before h q) u i ∙ f)))))
      (cases_Bool (S u)))

pub law_of_listed_sets : LawOfListedSets
law_of_listed_sets d h q S s =
    let same : members h q S ≡ nearest_placement d h q = smallest_listed h q d S s in
    (same, sym (cost_same h q d S) ∙ ap (λ part. cost d h q (is_among part)) same)
