-- The closed sets are the prefixes of placements, for updates whose commit order respects the conflict order.
use Rattle.std.proofs.Common.{◌≡◌, ℕ, ◌≤◌, Bool, true, false, not, List, ◌++◌, length, take, drop, sym, ◌∙◌, ap, subst, ⊎_elim, arith, Contains, take-append-drop, length-append}
use Rattle.std.proofs.Math.Path.{fun_ext}
use Rattle.std.proofs.Math.Seq.{take-append_seam}
use Rattle.std.proofs.lemmas.Bool.{true≢false, cases_Bool, not-true, not_from_false, false_from_ne_true}
use Rattle.esr_items.specs.Values.{value_at}
use Rattle.esr_history.specs.Machine.{DistanceFunction, Schedule}
use Rattle.esr_history.specs.Serial.{is_before, values_by, state}
use Rattle.esr_history.specs.Queries.{updates_committed_before, distance_from, members, cost}
use Rattle.esr_history.proofs.Membership.{In, Pairs, In-Contains, Contains-In, Pairs-from_all, All-from_pairs, In-append_cases, In-append_left, In-append_right, In-filter, In-of_filter, Pairs-filter, Pairs-append, Pairs-left, Pairs-across, In-from_any, any-from_number}
use Rattle.esr_history.proofs.LastWriter.{same_left}
use Rattle.esr_order.specs.Placements.{is_among, IsPlacement, IsClosed, placement_distance}
use Rattle.esr_order.specs.Statements.{ClosedSetsAreParts}
use Rattle.esr_order.proofs.Writers.{writers_in_order}
use Rattle.esr_order.proofs.Least.{must_in}

-- the commit order of the updates respects the conflict order
pub record InOrder (h : Schedule) (q : ℕ) : Type 0 where
  pub once : Pairs (λ u v. u ≡ v → ⊥) (updates_committed_before h q)
  pub keeps : Pairs (λ u v. is_before h v u ≡ false) (updates_committed_before h q)

module _ (h : Schedule) (q : ℕ) (good : InOrder h q) where
  listed : (order : List ℕ) (k : ℕ) → IsPlacement h q order k → (u : ℕ) → In u (take k order) → In u (updates_committed_before h q)
  listed order k p u i =
      let all : In u (take k order ++ drop k order) = In-append_left (take k order) (drop k order) u i in
      Contains-In (updates_committed_before h q) u ((p.serial.lists u).0 (In-Contains order u (subst (In u) (take-append-drop k order) all)))

  kept : (order : List ℕ) (k : ℕ) → IsPlacement h q order k → Pairs (λ u v. is_before h v u ≡ false) (take k order ++ drop k order)
  kept order k p = subst (Pairs (λ u v. is_before h v u ≡ false)) (sym (take-append-drop k order)) (Pairs-from_all (λ u v. is_before h v u ≡ false) order p.serial.keeps)

  pub part_closed : (order : List ℕ) (k : ℕ) → IsPlacement h q order k → IsClosed h q (is_among (take k order))
  part_closed order k p = record {
    downward = λ u v cu cv b sv.
        let iv : In v (take k order) = In-from_any (take k order) v sv in
        let iu : In u (take k order ++ drop k order) = subst (In u) (sym (take-append-drop k order)) (Contains-In order u ((p.serial.lists u).1 cu)) in
        any-from_number (take k order) u
        (⊎_elim (λ i. i)
        (λ j. absurd (true≢false (sym b ∙ Pairs-across (λ u v. is_before h v u ≡ false) (take k order) (drop k order) v u (kept order k p) iv j)))
        (In-append_cases (take k order) (drop k order) u iu));
    holds_must = λ u c. any-from_number (take k order) u (Contains-In (take k order) u (p.holds_must u c));
  }

  pub part_state : (order : List ℕ) (k : ℕ) → IsPlacement h q order k →
      (x : ℕ) → state h (take k order) x ≡ state h (members h q (is_among (take k order))) x
  part_state order k p x =
      same_left (is_before h) (values_by h x) (take k order) (members h q (is_among (take k order))) (value_at h.opening x)
      (writers_in_order h x)
      (Pairs-left (λ u v. is_before h v u ≡ false) (take k order) (drop k order) (kept order k p))
      (Pairs-filter (λ u v. is_before h v u ≡ false) (is_among (take k order)) (updates_committed_before h q) good.keeps)
      (λ u i. In-filter (is_among (take k order)) (updates_committed_before h q) u (listed order k p u i) (any-from_number (take k order) u i))
      (λ u i. In-from_any (take k order) u (In-of_filter (is_among (take k order)) (updates_committed_before h q) u i).1)

  pub part_cost : (d : DistanceFunction) (order : List ℕ) (k : ℕ) → IsPlacement h q order k →
      placement_distance d h q order k ≡ cost d h q (is_among (take k order))
  part_cost d order k p = ap (distance_from d h q) (fun_ext (part_state order k p))

  -- the members first, and then the others
  abbrev pub split_order : (ℕ → Bool) → List ℕ
  split_order S = members h q S ++ members h q (λ u. not (S u))

  pub split_front : (S : ℕ → Bool) → take (length (members h q S)) (split_order S) ≡ members h q S
  split_front S = take-append_seam (members h q S) (members h q (λ u. not (S u)))

  in_split : (S : ℕ → Bool) (u : ℕ) → In u (updates_committed_before h q) → In u (split_order S)
  in_split S u i =
      ⊎_elim
      (λ t. In-append_left (members h q S) (members h q (λ u. not (S u))) u (In-filter S (updates_committed_before h q) u i t))
      (λ f. In-append_right (members h q S) (members h q (λ u. not (S u))) u (In-filter (λ u. not (S u)) (updates_committed_before h q) u i (not_from_false (S u) f)))
      (cases_Bool (S u))

  of_split : (S : ℕ → Bool) (u : ℕ) → In u (split_order S) → In u (updates_committed_before h q)
  of_split S u i =
      ⊎_elim (λ a. (In-of_filter S (updates_committed_before h q) u a).0) (λ b. (In-of_filter (λ u. not (S u)) (updates_committed_before h q) u b).0)
      (In-append_cases (members h q S) (members h q (λ u. not (S u))) u i)

  split_pairs : (R : ℕ → ℕ → Type 0) (S : ℕ → Bool) → Pairs R (updates_committed_before h q) →
      ((u v : ℕ) → In u (updates_committed_before h q) → In v (updates_committed_before h q) → S u ≡ true → S v ≡ false → R u v) → Pairs R (split_order S)
  split_pairs R S p f =
      Pairs-append R (members h q S) (members h q (λ u. not (S u)))
      (Pairs-filter R S (updates_committed_before h q) p) (Pairs-filter R (λ u. not (S u)) (updates_committed_before h q) p)
      (λ u v iu iv.
      let a = In-of_filter S (updates_committed_before h q) u iu in
      let b = In-of_filter (λ u. not (S u)) (updates_committed_before h q) v iv in
      f u v a.0 b.0 a.1 (not-true (S v) b.1))

  pub closed_placement : (S : ℕ → Bool) → IsClosed h q S → IsPlacement h q (split_order S) (length (members h q S))
  closed_placement S c = record {
    serial = record {
      lists = λ u. (
        (λ i. In-Contains (updates_committed_before h q) u (of_split S u (Contains-In (split_order S) u i))),
        (λ i. In-Contains (split_order S) u (in_split S u (Contains-In (updates_committed_before h q) u i))),
      );
      once = All-from_pairs (λ u v. u ≡ v → ⊥) (split_order S)
          (split_pairs (λ u v. u ≡ v → ⊥) S good.once (λ u v iu iv su sv e. true≢false (sym su ∙ (ap S e ∙ sv))));
      keeps = All-from_pairs (λ u v. is_before h v u ≡ false) (split_order S)
          (split_pairs (λ u v. is_before h v u ≡ false) S good.keeps
          (λ u v iu iv su sv. false_from_ne_true (is_before h v u)
          (λ b. true≢false (sym (c.downward v u (In-Contains (updates_committed_before h q) v iv) (In-Contains (updates_committed_before h q) u iu) b su) ∙ sv))));
    };
    within = bound S;
    holds_must = λ u m. subst (λ l. Contains l u) (sym (split_front S)) (In-Contains (members h q S) u
        (In-filter S (updates_committed_before h q) u (must_in h q u m) (c.holds_must u m)));
  }
    where
      bound : (S : ℕ → Bool) → length (members h q S) ≤ length (split_order S)
      bound S = omega (arith, length-append (members h q S) (members h q (λ u. not (S u))))

  pub closed_cost : (d : DistanceFunction) (S : ℕ → Bool) →
      placement_distance d h q (split_order S) (length (members h q S)) ≡ cost d h q S
  closed_cost d S = ap (λ l. distance_from d h q (state h l)) (split_front S)

  pub closed_sets_are_parts : (d : DistanceFunction) → ClosedSetsAreParts d h q
  closed_sets_are_parts d = record {
    part_is_closed = part_closed;
    part_leaves = part_state;
    closed_is_part = λ S c. (split_order S, length (members h q S), closed_placement S c, split_front S);
    least = λ n. (
      (λ l. (
        is_among (take l.position l.order),
        record {
          closed = part_closed l.order l.position l.is_placement;
          none_less = λ T c.
              let e : placement_distance d h q l.order l.position ≡ cost d h q (is_among (take l.position l.order)) = part_cost d l.order l.position l.is_placement in
              let f : placement_distance d h q (split_order T) (length (members h q T)) ≡ cost d h q T = closed_cost d T in
              let g : n ≤ placement_distance d h q (split_order T) (length (members h q T)) = l.none_less (split_order T) (length (members h q T)) (closed_placement T c) in
              let k : placement_distance d h q l.order l.position ≡ n = l.has in
              subst (λ m. m ≤ cost d h q T) (sym k ∙ e) (subst (λ m. n ≤ m) f g);
        },
        sym (part_cost d l.order l.position l.is_placement) ∙ l.has,
      )),
      (λ s. record {
        order = split_order s.0;
        position = length (members h q s.0);
        is_placement = closed_placement s.0 s.1.closed;
        has = closed_cost d s.0 ∙ s.2;
        none_less = λ other k p.
            let g : cost d h q s.0 ≤ cost d h q (is_among (take k other)) = s.1.none_less (is_among (take k other)) (part_closed other k p) in
            subst (λ m. m ≤ placement_distance d h q other k) s.2 (subst (λ m. cost d h q s.0 ≤ m) (sym (part_cost d other k p)) g);
      }),
    );
  }
