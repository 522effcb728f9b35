-- The costs of two closed sets are together those of their meet and their join.
use Rattle.std.proofs.Common.{◌≡◌, ℕ, ◌+◌, ◌≤◌, ℤ, Bool, true, false, cond, ◌&&◌, ◌||◌, ◌⊎◌, List, [], ◌∷◌, ◌++◌, refl, sym, ◌∙◌, ap, inl, inr, ⊎_elim, arith, filter, sum_by, flat_map}
use Rattle.std.proofs.lemmas.List.Sums.{sum_by-cons}
use Rattle.std.proofs.lemmas.Bool.{true≢false, cases_Bool, and_parts, and_from, or_cases, or_left, or_right, cases_eq}
use Rattle.esr_items.specs.Values.{value_at}
use Rattle.esr_history.specs.Events.{last_value}
use Rattle.esr_history.specs.Machine.{DistanceFunction, Schedule, value_distance}
use Rattle.esr_history.specs.Operations.{Operation}
use Rattle.esr_history.specs.Serial.{values_by, state}
use Rattle.esr_history.specs.Queries.{updates_committed_before, reads_by, members, cost}
use Rattle.esr_history.proofs.Membership.{In, In-Contains}
use Rattle.esr_history.proofs.LastWriter.{empty_or_not}
use Rattle.esr_order.specs.Placements.{IsClosed, IsLeastSet}
use Rattle.esr_order.proofs.Writers.{writers_in_order}

abbrev pub both : (ℕ → Bool) → (ℕ → Bool) → ℕ → Bool
both S T u = S u && T u

abbrev pub either : (ℕ → Bool) → (ℕ → Bool) → ℕ → Bool
either S T u = S u || T u

-- sets with the same writers leave the same value
same_writers : (w : ℕ → List ℤ) (S T : ℕ → Bool) (us : List ℕ) → ((u : ℕ) → In u us → (w u ≡ [] → ⊥) → S u ≡ T u) → flat_map w (filter S us) ≡ flat_map w (filter T us)
same_writers w S T [] f = refl
same_writers w S T (u ∷ us) f =
    let rest : flat_map w (filter S us) ≡ flat_map w (filter T us) = same_writers w S T us (λ v i. f v (inr i)) in
    ⊎_elim
    (λ e. with_none w S u us e ∙ (rest ∙ sym (with_none w T u us e)))
    (λ ne. ap (λ b. flat_map w (cond b (u ∷ filter S us) (filter S us))) (f u (inl refl) ne) ∙ with_same w (T u) u (filter S us) (filter T us) rest)
    (empty_or_not (w u))
  where
    with_none : (w : ℕ → List ℤ) (R : ℕ → Bool) (u : ℕ) (us : List ℕ) → w u ≡ [] → flat_map w (filter R (u ∷ us)) ≡ flat_map w (filter R us)
    with_none w R u us e = go (R u) e
      where
        go : (b : Bool) → w u ≡ [] → flat_map w (cond b (u ∷ filter R us) (filter R us)) ≡ flat_map w (filter R us)
        go true e = ap (λ l. l ++ flat_map w (filter R us)) e
        go false e = refl

    with_same : (w : ℕ → List ℤ) (b : Bool) (u : ℕ) (xs ys : List ℕ) → flat_map w xs ≡ flat_map w ys → flat_map w (cond b (u ∷ xs) xs) ≡ flat_map w (cond b (u ∷ ys) ys)
    with_same w true u xs ys e = ap (λ l. w u ++ l) e
    with_same w false u xs ys e = e

-- some writer of S that T lacks, or none
lacking : (w : ℕ → List ℤ) (S T : ℕ → Bool) (us : List ℕ) →
    ((u : ℕ) × In u us × (w u ≡ [] → ⊥) × (S u ≡ true) × (T u ≡ false)) ⊎ ((u : ℕ) → In u us → (w u ≡ [] → ⊥) → S u ≡ true → T u ≡ true)
lacking w S T [] = inr (λ u i. absurd i)
lacking w S T (x ∷ xs) =
    ⊎_elim
    (λ a. inl (a.0, inr a.1, a.2, a.3, a.4))
    (λ f. ⊎_elim
    (λ e. inr (λ u i ne su. ⊎_elim (λ q. absurd (ne (ap w (sym q) ∙ e))) (λ j. f u j ne su) i))
    (λ ne. ⊎_elim
    (λ tx. inr (λ u i nu su. ⊎_elim (λ q. ap T (sym q) ∙ tx) (λ j. f u j nu su) i))
    (λ ntx. ⊎_elim
    (λ sx. inl (x, inl refl, ne, sx, ntx))
    (λ nsx. inr (λ u i nu su. ⊎_elim (λ q. absurd (true≢false (sym su ∙ (ap S (sym q) ∙ nsx)))) (λ j. f u j nu su) i))
    (cases_Bool (S x)))
    (cases_Bool (T x)))
    (empty_or_not (w x)))
    (lacking w S T xs)

-- of two closed sets, at each item the one has all writers of the other
nested : (h : Schedule) (q x : ℕ) (S T : ℕ → Bool) → IsClosed h q S → IsClosed h q T →
    ((u : ℕ) → In u (updates_committed_before h q) → (values_by h x u ≡ [] → ⊥) → S u ≡ true → T u ≡ true) ⊎ ((u : ℕ) → In u (updates_committed_before h q) → (values_by h x u ≡ [] → ⊥) → T u ≡ true → S u ≡ true)
nested h q x S T cs ct =
    ⊎_elim
    (λ a. inr (λ v i nv tv. ⊎_elim
    (λ e. absurd (true≢false (sym tv ∙ (ap T e ∙ a.4))))
    (λ ne. ⊎_elim
    (λ b. cs.downward v a.0 (In-Contains (updates_committed_before h q) v i) (In-Contains (updates_committed_before h q) a.0 a.1) b a.3)
    (λ b. absurd (true≢false (sym (ct.downward a.0 v (In-Contains (updates_committed_before h q) a.0 a.1) (In-Contains (updates_committed_before h q) v i) b tv) ∙ a.4)))
    (writers_in_order h x v a.0 nv a.2 ne))
    (cases_eq v a.0)))
    (λ f. inl f)
    (lacking (values_by h x) S T (updates_committed_before h q))

under : (a b : Bool) → (a ≡ true → b ≡ true) → ((a && b) ≡ a) × ((a || b) ≡ b)
under true b f = (f refl, sym (f refl))
under false b f = (refl, refl)

over : (a b : Bool) → (b ≡ true → a ≡ true) → ((a && b) ≡ b) × ((a || b) ≡ a)
over true b f = (refl, refl)
over false true f = absurd (true≢false (sym (f refl)))
over false false f = (refl, refl)

-- at each item the meet and the join leave the two values of the sets
pub meet_values : (h : Schedule) (q x : ℕ) (S T : ℕ → Bool) → IsClosed h q S → IsClosed h q T → (f : ℤ → ℕ) →
    f (state h (members h q (both S T)) x) + f (state h (members h q (either S T)) x) ≡ f (state h (members h q S) x) + f (state h (members h q T) x)
meet_values h q x S T cs ct f =
    ⊎_elim
    (λ s. both_same f (value (both S T) S (λ u i n. (under (S u) (T u) (s u i n)).0)) (value (either S T) T (λ u i n. (under (S u) (T u) (s u i n)).1)))
    (λ t. crossed f (value (both S T) T (λ u i n. (over (S u) (T u) (t u i n)).0)) (value (either S T) S (λ u i n. (over (S u) (T u) (t u i n)).1)))
    (nested h q x S T cs ct)
  where
    value : (A B : ℕ → Bool) → ((u : ℕ) → In u (updates_committed_before h q) → (values_by h x u ≡ [] → ⊥) → A u ≡ B u) → state h (members h q A) x ≡ state h (members h q B) x
    value A B g = ap (last_value (value_at h.opening x)) (same_writers (values_by h x) A B (updates_committed_before h q) g)

    both_same : (f : ℤ → ℕ) → {a b c d : ℤ} → a ≡ c → b ≡ d → f a + f b ≡ f c + f d
    both_same f {a} {b} {c} {d} e g = ap (λ z. f z + f b) e ∙ ap (λ z. f c + f z) g

    crossed : (f : ℤ → ℕ) → {a b c d : ℤ} → a ≡ d → b ≡ c → f a + f b ≡ f c + f d
    crossed f {a} {b} {c} {d} e g = ap (λ z. f z + f b) e ∙ (ap (λ z. f d + f z) g ∙ swap (f d) (f c))
      where
        swap : (m n : ℕ) → m + n ≡ n + m
        swap m n = omega arith

sums_agree : (f g j k : Operation → ℕ) (xs : List Operation) → ((o : Operation) → f o + g o ≡ j o + k o) → sum_by f xs + sum_by g xs ≡ sum_by j xs + sum_by k xs
sums_agree f g j k [] h = refl
sums_agree f g j k (x ∷ xs) h =
    ap (λ z. z + sum_by g (x ∷ xs)) (sum_by-cons f x xs) ∙ (ap (λ z. (f x + sum_by f xs) + z) (sum_by-cons g x xs)
    ∙ (four (f x) (sum_by f xs) (g x) (sum_by g xs) (j x) (sum_by j xs) (k x) (sum_by k xs) (h x) (sums_agree f g j k xs h)
    ∙ sym (ap (λ z. z + sum_by k (x ∷ xs)) (sum_by-cons j x xs) ∙ ap (λ z. (j x + sum_by j xs) + z) (sum_by-cons k x xs))))
  where
    four : (a b c d e m n p : ℕ) → a + c ≡ e + n → b + d ≡ m + p → (a + b) + (c + d) ≡ (e + m) + (n + p)
    four a b c d e m n p h1 h2 = omega arith

pub meet_costs : (d : DistanceFunction) (h : Schedule) (q : ℕ) (S T : ℕ → Bool) → IsClosed h q S → IsClosed h q T →
    cost d h q (both S T) + cost d h q (either S T) ≡ cost d h q S + cost d h q T
meet_costs d h q S T cs ct =
    sums_agree
    (λ o. value_distance d h o.item o.value (state h (members h q (both S T)) o.item)) (λ o. value_distance d h o.item o.value (state h (members h q (either S T)) o.item))
    (λ o. value_distance d h o.item o.value (state h (members h q S) o.item)) (λ o. value_distance d h o.item o.value (state h (members h q T) o.item))
    (reads_by h q) (λ o. meet_values h q o.item S T cs ct (value_distance d h o.item o.value))

pub both_closed : (h : Schedule) (q : ℕ) (S T : ℕ → Bool) → IsClosed h q S → IsClosed h q T → IsClosed h q (both S T)
both_closed h q S T cs ct = record {
  downward = λ u v cu cv b sv. let p = and_parts (S v) (T v) sv in and_from (S u) (T u) (cs.downward u v cu cv b p.0) (ct.downward u v cu cv b p.1);
  holds_must = λ u m. and_from (S u) (T u) (cs.holds_must u m) (ct.holds_must u m);
}

pub either_closed : (h : Schedule) (q : ℕ) (S T : ℕ → Bool) → IsClosed h q S → IsClosed h q T → IsClosed h q (either S T)
either_closed h q S T cs ct = record {
  downward = λ u v cu cv b sv. ⊎_elim (λ s. or_left (S u) (T u) (cs.downward u v cu cv b s)) (λ t. or_right (S u) (T u) (ct.downward u v cu cv b t)) (or_cases (S v) (T v) sv);
  holds_must = λ u m. or_left (S u) (T u) (cs.holds_must u m);
}

-- so the closed sets of least cost are closed under meets
pub least_meet : (d : DistanceFunction) (h : Schedule) (q : ℕ) (S T : ℕ → Bool) → IsLeastSet d h q S → IsLeastSet d h q T → IsLeastSet d h q (both S T)
least_meet d h q S T ls lt = record {
  closed = both_closed h q S T ls.closed lt.closed;
  none_less = λ R c.
      let e = meet_costs d h q S T ls.closed lt.closed in
      let a = lt.none_less (either S T) (either_closed h q S T ls.closed lt.closed) in
      let b = ls.none_less R c in
      least_of (cost d h q (both S T)) (cost d h q (either S T)) (cost d h q S) (cost d h q T) (cost d h q R) e a b;
}
  where
    least_of : (m j s t r : ℕ) → m + j ≡ s + t → t ≤ j → s ≤ r → m ≤ r
    least_of m j s t r e a b = omega arith
