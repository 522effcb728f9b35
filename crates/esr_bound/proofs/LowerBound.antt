-- Why amounts below the costs of versions, whose sum less the loans no update decreases, bound the cost of every closed set
-- from below.
use Rattle.std.proofs.Common.{◌≡◌, ℕ, zero, suc, ◌+◌, ◌-◌, ◌<◌, ◌≤◌, ◌&&◌, ℤ, Bool, true, false, cond, eqb, eq-eqb, List, [], ◌∷◌, ◌++◌, length, take, filter, flat_map, map, sum_by, refl, sym, ap, ◌∙◌, subst, inl, inr, ◌⊎◌, arith, append-nil}
use Rattle.std.specs.List.{range_with_len}
use Rattle.std.proofs.lemmas.Bool.{true≢false, cases_Bool, cases_eq, cases_lt, and_parts, and_from, or_left, or_right, eqb-true}
use Rattle.std.proofs.lemmas.List.{take_more, take_all}
use Rattle.std.proofs.lemmas.List.Sums.{sum_by-cons}
use Rattle.std.proofs.lemmas.List.Elements.{filter-append}
use Rattle.esr_items.specs.Values.{value_at}
use Rattle.esr_history.specs.Events.{last_value}
use Rattle.esr_history.specs.Machine.{Schedule}
use Rattle.esr_history.specs.Operations.{Operation, operations}
use Rattle.esr_history.specs.Serial.{conflict, is_before, values_by, state}
use Rattle.esr_history.specs.Queries.{updates_committed_before, members, must}
use Rattle.esr_history.proofs.Membership.{In, In-any, In-Contains, Pairs, any-from_In, each_at, filter-some}
use Rattle.esr_history.proofs.LastWriter.{empty_or_not, last_value-append, last_value-some}
use Rattle.esr_history.proofs.TraceAgreement.{values_trace}
use Rattle.esr_history.proofs.Versions.{wrote_by, wrote_parts, conflict_of}
use Rattle.esr_order.specs.Placements.{IsClosed}
use Rattle.esr_order.specs.Chains.{nth}
use Rattle.esr_order.specs.Chains.{update_at}
use Rattle.esr_order.proofs.Early.{must_positions}
use Rattle.esr_order.proofs.Lists.{in_map}
use Rattle.esr_order.proofs.ConflictOrder.{in_order}
use Rattle.esr_order.proofs.Placed.{InOrder}
use Rattle.esr_order.proofs.Writers.{pair_total}
use Rattle.esr_bound.specs.Amounts.{Amount, total, mark_at, cost_by, HasMarked, Wrote, accessed, left_by, left_by_all, HasWriters, HasAccessors, LacksWriter, HasMarkedSoFar, CostsMore, Carries, HasReason, IsStep, LawOfStart, LawOfUpdates, LawOfEnd}

-- ---- sums

pub sum_le : (f g : ℕ → ℕ) (xs : List ℕ) → ((x : ℕ) → In x xs → f x ≤ g x) → sum_by f xs ≤ sum_by g xs
sum_le f g [] l = omega arith
sum_le f g (x ∷ xs) l =
    let here : f x ≤ g x = l x (inl refl) in
    let rest : sum_by f xs ≤ sum_by g xs = sum_le f g xs (λ y i. l y (inr i)) in
    omega (arith, sum_by-cons f x xs, sum_by-cons g x xs, here, rest)

sum_lt : (f g : ℕ → ℕ) (xs : List ℕ) → ((x : ℕ) → In x xs → f x ≤ g x) → (x : ℕ) → In x xs → f x < g x → sum_by f xs < sum_by g xs
sum_lt f g [] l x i s = absurd i
sum_lt f g (y ∷ ys) l x (inl e) s =
    let here : f y < g y = subst (λ z. f z < g z) (sym e) s in
    let rest : sum_by f ys ≤ sum_by g ys = sum_le f g ys (λ z i. l z (inr i)) in
    omega (arith, sum_by-cons f y ys, sum_by-cons g y ys, here, rest)
sum_lt f g (y ∷ ys) l x (inr i) s =
    let here : f y ≤ g y = l y (inl refl) in
    let rest : sum_by f ys < sum_by g ys = sum_lt f g ys (λ z j. l z (inr j)) x i s in
    omega (arith, sum_by-cons f y ys, sum_by-cons g y ys, here, rest)

sum_both : (f g : ℕ → ℕ) (xs : List ℕ) → sum_by (λ x. f x + g x) xs ≡ sum_by f xs + sum_by g xs
sum_both f g [] = refl
sum_both f g (x ∷ xs) =
    let rest = sum_both f g xs in
    omega (arith, sum_by-cons (λ y. f y + g y) x xs, sum_by-cons f x xs, sum_by-cons g x xs, rest)

-- two functions that change by the same number at each item have sums that change by the same number
sum_moves : (a a' b b' : ℕ → ℕ) (xs : List ℕ) → ((x : ℕ) → In x xs → b' x + a x ≡ b x + a' x) → sum_by b' xs + sum_by a xs ≡ sum_by b xs + sum_by a' xs
sum_moves a a' b b' [] e = refl
sum_moves a a' b b' (x ∷ xs) e =
    let here : b' x + a x ≡ b x + a' x = e x (inl refl) in
    let rest : sum_by b' xs + sum_by a xs ≡ sum_by b xs + sum_by a' xs = sum_moves a a' b b' xs (λ y i. e y (inr i)) in
    omega (arith, sum_by-cons a x xs, sum_by-cons a' x xs, sum_by-cons b x xs, sum_by-cons b' x xs, here, rest)

pub range_in : (a n x : ℕ) → In x (range_with_len a n) → (a ≤ x) × (x < a + n)
range_in a zero x i = absurd i
range_in a (suc n) x (inl e) = (omega arith, omega arith)
range_in a (suc n) x (inr i) = let r = range_in (a + 1) n x i in (omega (arith, r.0), omega (arith, r.1))

pub in_range : (a n x : ℕ) → a ≤ x → x < a + n → In x (range_with_len a n)
in_range a zero x l m = absurd (omega arith)
in_range a (suc n) x l m =
    elim (cases_eq a x) [
      | inl e ↦ inl e
      | inr ne ↦ inr (in_range (a + 1) n x (omega arith) (omega arith))
    ]

-- ---- lists

pub in_take : (us : List ℕ) (k u : ℕ) → In u (take k us) → (i : ℕ) × (i < k) × (i < length us) × (nth us i ≡ u)
in_take [] zero u i = absurd i
in_take [] (suc k) u i = absurd i
in_take (v ∷ us) zero u i = absurd i
in_take (v ∷ us) (suc k) u (inl e) = (0, omega arith, omega arith, e)
in_take (v ∷ us) (suc k) u (inr i) = let r = in_take us k u i in (suc r.0, omega (arith, r.1), omega (arith, r.2), r.3)

pub nth_in : (us : List ℕ) (i : ℕ) → i < length us → In (nth us i) us
nth_in [] i l = absurd (omega arith)
nth_in (u ∷ us) zero l = inl refl
nth_in (u ∷ us) (suc i) l = inr (nth_in us i (omega arith))

pub pairs_at : (R : ℕ → ℕ → Type 0) (us : List ℕ) → Pairs R us → (i j : ℕ) → i < j → j < length us → R (nth us i) (nth us j)
pairs_at R [] p i j l m = absurd (omega arith)
pairs_at R (u ∷ us) p i zero l m = absurd (omega arith)
pairs_at R (u ∷ us) p zero (suc j) l m = each_at (R u) us (nth us j) p.0 (nth_in us j (omega arith))
pairs_at R (u ∷ us) p (suc i) (suc j) l m = pairs_at R us p.1 i j (omega arith) (omega arith)

all_kept : (T : ℕ → Bool) (w : ℕ → List ℤ) (us : List ℕ) → ((u : ℕ) → In u us → (w u ≡ [] → ⊥) → T u ≡ true) → flat_map w (filter T us) ≡ flat_map w us
all_kept T w [] f = refl
all_kept T w (u ∷ us) f =
    let rest : flat_map w (filter T us) ≡ flat_map w us = all_kept T w us (λ v i. f v (inr i)) in
    elim (empty_or_not (w u)) [
      | inl e ↦ skip (T u) e rest
      | inr ne ↦ ap (λ b. flat_map w (cond b (u ∷ filter T us) (filter T us))) (f u (inl refl) ne) ∙ ap (λ l. w u ++ l) rest
    ]
  where
    skip : (b : Bool) → w u ≡ [] → flat_map w (filter T us) ≡ flat_map w us → flat_map w (cond b (u ∷ filter T us) (filter T us)) ≡ flat_map w (u ∷ us)
    skip true e rest = ap (λ l. w u ++ l) rest
    skip false e rest = rest ∙ sym (ap (λ l. l ++ flat_map w us) e)

flat_one_more : (w : ℕ → List ℤ) (xs : List ℕ) (u : ℕ) → flat_map w (xs ++ u ∷ []) ≡ flat_map w xs ++ w u
flat_one_more w [] u = append-nil (w u)
flat_one_more w (x ∷ xs) u = ap (λ l. w x ++ l) (flat_one_more w xs u) ∙ assoc (w x) (flat_map w xs) (w u)
  where
    assoc : (a b c : List ℤ) → a ++ (b ++ c) ≡ (a ++ b) ++ c
    assoc [] b c = refl
    assoc (z ∷ a) b c = ap (λ l. z ∷ l) (assoc a b c)

-- ---- conflicts

module _ (h : Schedule) (x : ℕ) where
  abbrev is_access : ℕ → Operation → Bool
  is_access u o = eqb o.txn u && eqb o.item x

  wrote_operation : (u : ℕ) → Wrote h x u → (o : Operation) × In o (operations h) × (o.writes ≡ true) × (o.item ≡ x) × (o.txn ≡ u)
  wrote_operation u w =
      let a = filter-some (wrote_by x u) (operations h) (λ e. w (values_trace h x u ∙ ap (map (λ o. o.value)) e)) in
      let p = wrote_parts x u a.0 a.2 in
      (a.0, a.1, p.0, p.1, p.2)

  -- an update that wrote an item accessed it
  pub wrote_accessed : (u : ℕ) → Wrote h x u → accessed h x u ≡ true
  wrote_accessed u w =
      let o = wrote_operation u w in
      any-from_In (is_access u) (operations h) o.0 o.1 (and_from (eqb o.0.txn u) (eqb o.0.item x) (eq-eqb o.0.txn u o.4) (eq-eqb o.0.item x o.3))

  -- an update that did not access an item wrote no value to it
  pub unaccessed : (u : ℕ) → accessed h x u ≡ false → values_by h x u ≡ []
  unaccessed u untouched = elim (empty_or_not (values_by h x u)) [
    | inl e ↦ e
    | inr w ↦ absurd (true≢false (sym (wrote_accessed u w) ∙ untouched))
  ]

  -- an update that accessed an item and one that wrote it are in the conflict order, one way or the other
  pub accessors_in_order : (u t : ℕ) → accessed h x u ≡ true → Wrote h x t → (u ≡ t → ⊥) → (is_before h u t ≡ true) ⊎ (is_before h t u ≡ true)
  accessors_in_order u t touched wrote ne =
      let a = In-any (is_access u) (operations h) touched in
      let pa = and_parts (eqb a.0.txn u) (eqb a.0.item x) a.2 in
      let ta : a.0.txn ≡ u = eqb-true a.0.txn u pa.0 in
      let ia : a.0.item ≡ x = eqb-true a.0.item x pa.1 in
      let b = wrote_operation t wrote in
      let apart : a.0.txn ≡ b.0.txn → ⊥ = λ e. ne (sym ta ∙ (e ∙ b.4)) in
      pair_total (λ y z. eqb y.txn u && (eqb z.txn t && conflict y z)) (λ y z. eqb y.txn t && (eqb z.txn u && conflict y z)) (operations h) a.0 b.0 a.1 b.1 (λ e. apart (ap (λ o. o.txn) e))
      (and_from (eqb a.0.txn u) (eqb b.0.txn t && conflict a.0 b.0) (eq-eqb a.0.txn u ta)
      (and_from (eqb b.0.txn t) (conflict a.0 b.0) (eq-eqb b.0.txn t b.4) (conflict_of a.0 b.0 apart (ia ∙ sym b.3) (or_right a.0.writes b.0.writes b.2))))
      (and_from (eqb b.0.txn t) (eqb a.0.txn u && conflict b.0 a.0) (eq-eqb b.0.txn t b.4)
      (and_from (eqb a.0.txn u) (conflict b.0 a.0) (eq-eqb a.0.txn u ta) (conflict_of b.0 a.0 (λ e. apart (sym e)) (b.3 ∙ sym ia) (or_left b.0.writes a.0.writes b.2))))

module _ (h : Schedule) (q : ℕ) where
  -- the value after one more update, for a member and for a non-member
  pub left_with : (T : ℕ → Bool) (k x : ℕ) → k < length (updates_committed_before h q) → T (nth (updates_committed_before h q) k) ≡ true → left_by h q T (k + 1) x ≡ last_value (left_by h q T k x) (values_by h x (nth (updates_committed_before h q) k))
  left_with T k x l t =
      let u : ℕ = nth (updates_committed_before h q) k in
      let more : filter T (take (k + 1) (updates_committed_before h q)) ≡ filter T (take k (updates_committed_before h q)) ++ u ∷ [] =
      ap (filter T) (take_more (updates_committed_before h q) k 0 l) ∙ filter-append T (take k (updates_committed_before h q)) (u ∷ []) ∙ ap (λ b. filter T (take k (updates_committed_before h q)) ++ cond b (u ∷ []) []) t in
      ap (λ vs. last_value (value_at h.opening x) (flat_map (values_by h x) vs)) more
      ∙ ap (last_value (value_at h.opening x)) (flat_one_more (values_by h x) (filter T (take k (updates_committed_before h q))) u)
      ∙ last_value-append (value_at h.opening x) (flat_map (values_by h x) (filter T (take k (updates_committed_before h q)))) (values_by h x u)

  pub left_without : (T : ℕ → Bool) (k x : ℕ) → k < length (updates_committed_before h q) → T (nth (updates_committed_before h q) k) ≡ false → left_by h q T (k + 1) x ≡ left_by h q T k x
  left_without T k x l t =
      let u : ℕ = nth (updates_committed_before h q) k in
      let more : filter T (take (k + 1) (updates_committed_before h q)) ≡ filter T (take k (updates_committed_before h q)) =
      ap (filter T) (take_more (updates_committed_before h q) k 0 l) ∙ filter-append T (take k (updates_committed_before h q)) (u ∷ []) ∙ ap (λ b. filter T (take k (updates_committed_before h q)) ++ cond b (u ∷ []) []) t ∙ append-nil (filter T (take k (updates_committed_before h q))) in
      ap (λ vs. last_value (value_at h.opening x) (flat_map (values_by h x) vs)) more

  -- if T contains all writers of x so far, it leaves the value that the full order leaves
  pub left_all : (T : ℕ → Bool) (k x : ℕ) → ((i : ℕ) → i < k → i < length (updates_committed_before h q) → Wrote h x (nth (updates_committed_before h q) i) → T (nth (updates_committed_before h q) i) ≡ true) → left_by h q T k x ≡ state h (take k (updates_committed_before h q)) x
  left_all T k x all =
      ap (last_value (value_at h.opening x)) (all_kept T (values_by h x) (take k (updates_committed_before h q)) (λ u i ne.
      let r = in_take (updates_committed_before h q) k u i in
      ap T (sym r.3) ∙ all r.0 r.1 r.2 (λ e. ne (sym (ap (values_by h x) r.3) ∙ e))))

  -- the value after one more update in the full order
  pub all_more : (k x : ℕ) → k < length (updates_committed_before h q) → left_by_all h q (k + 1) x ≡ last_value (left_by_all h q k x) (values_by h x (nth (updates_committed_before h q) k))
  all_more k x l =
      sym (left_all (λ u. true) (k + 1) x (λ i m n w. refl))
      ∙ left_with (λ u. true) k x l refl
      ∙ ap (λ v. last_value v (values_by h x (nth (updates_committed_before h q) k))) (left_all (λ u. true) k x (λ i m n w. refl))

module _ (h : Schedule) (q : ℕ) (good : InOrder h q) where
  -- A closed set contains, with an update, an earlier one with which it conflicts.
  earlier_conflicting : (T : ℕ → Bool) → IsClosed h q T → (i k : ℕ) → i < k → k < length (updates_committed_before h q)
      → (is_before h (nth (updates_committed_before h q) i) (nth (updates_committed_before h q) k) ≡ true) ⊎ (is_before h (nth (updates_committed_before h q) k) (nth (updates_committed_before h q) i) ≡ true)
      → T (nth (updates_committed_before h q) k) ≡ true → T (nth (updates_committed_before h q) i) ≡ true
  earlier_conflicting T closed i k l m ordered t =
      let back : is_before h (nth (updates_committed_before h q) k) (nth (updates_committed_before h q) i) ≡ false = pairs_at (λ u v. is_before h v u ≡ false) (updates_committed_before h q) good.keeps i k l m in
      elim ordered [
        | inl b ↦ closed.downward (nth (updates_committed_before h q) i) (nth (updates_committed_before h q) k) (In-Contains (updates_committed_before h q) (nth (updates_committed_before h q) i) (nth_in (updates_committed_before h q) i (omega arith))) (In-Contains (updates_committed_before h q) (nth (updates_committed_before h q) k) (nth_in (updates_committed_before h q) k m)) b t
        | inr b ↦ absurd (true≢false (sym b ∙ back))
      ]

  apart : (i k : ℕ) → i < k → k < length (updates_committed_before h q) → nth (updates_committed_before h q) i ≡ nth (updates_committed_before h q) k → ⊥
  apart i k l m = pairs_at (λ u v. u ≡ v → ⊥) (updates_committed_before h q) good.once i k l m

  -- a closed set contains, with an update that accessed an item, the earlier writers of the item
  pub earlier_writer : (T : ℕ → Bool) → IsClosed h q T → (x i k : ℕ) → i < k → k < length (updates_committed_before h q) → Wrote h x (nth (updates_committed_before h q) i) → accessed h x (nth (updates_committed_before h q) k) ≡ true → T (nth (updates_committed_before h q) k) ≡ true → T (nth (updates_committed_before h q) i) ≡ true
  earlier_writer T closed x i k l m wi ak t =
      earlier_conflicting T closed i k l m
      (elim (accessors_in_order h x (nth (updates_committed_before h q) k) (nth (updates_committed_before h q) i) ak wi (λ e. apart i k l m (sym e))) [ inl b ↦ inr b | inr b ↦ inl b ])
      t

  -- and with a writer of an item, the earlier updates that accessed it
  pub earlier_accessor : (T : ℕ → Bool) → IsClosed h q T → (x i k : ℕ) → i < k → k < length (updates_committed_before h q) → accessed h x (nth (updates_committed_before h q) i) ≡ true → Wrote h x (nth (updates_committed_before h q) k) → T (nth (updates_committed_before h q) k) ≡ true → T (nth (updates_committed_before h q) i) ≡ true
  earlier_accessor T closed x i k l m ai wk t =
      earlier_conflicting T closed i k l m (accessors_in_order h x (nth (updates_committed_before h q) i) (nth (updates_committed_before h q) k) ai wk (apart i k l m)) t

module _ (h : Schedule) (q : ℕ) (good : InOrder h q) (n : ℕ) (C : ℕ → ℤ → ℕ) (worth k : ℕ) (inside : k < length (updates_committed_before h q)) (amounts after : ℕ → Amount) (seed : Bool) (marks marked : List Bool) (step : IsStep n C h q k amounts after seed marks marked)
    (S : ℕ → Bool) (closed : IsClosed h q S) (seeded : seed ≡ true → S (nth (updates_committed_before h q) k) ≡ true) (so_far : Carries n C h q worth k amounts marks S) where
  abbrev here : ℕ
  here = nth (updates_committed_before h q) k

  -- facts of the updates so far
  writers_before : (x : ℕ) → HasWriters h q S (k + 1) x → HasWriters h q S k x
  writers_before x all i l w = all i (omega arith) w

  accessors_before : (x : ℕ) → HasAccessors h q S (k + 1) x → HasAccessors h q S k x
  accessors_before x all i l w = all i (omega arith) w

  marked_before : HasMarkedSoFar h q marked S (k + 1) → HasMarkedSoFar h q marks S k
  marked_before all i l m = all i (omega arith) (step.earlier i l ∙ m)

  marked_with : HasMarkedSoFar h q marks S k → (mark_at marked k ≡ true → S here ≡ true) → HasMarkedSoFar h q marked S (k + 1)
  marked_with all now i l m =
      elim (cases_eq i k) [
        | inl e ↦ subst (λ j. S (nth (updates_committed_before h q) j) ≡ true) (sym e) (now (subst (λ j. mark_at marked j ≡ true) e m))
        | inr ne ↦ let low : i < k = omega arith in all i low (sym (step.earlier i low) ∙ m)
      ]

  -- the amount and the loans do not change where the update did not access the item
  amount_other : (x : ℕ) → x < n → accessed h x here ≡ false → (after x).amount ≡ (amounts x).amount
  amount_other x l untouched = ap (λ (a : Amount). a.amount) (step.others x l untouched)

  value_other : (x : ℕ) → values_by h x here ≡ [] → left_by_all h q (k + 1) x ≡ left_by_all h q k x
  value_other x e = all_more h q k x inside ∙ ap (last_value (left_by_all h q k x)) e

  -- after the update, too, each amount is at most the cost
  cap_after : (x : ℕ) → x < n → (after x).amount ≤ C x (left_by_all h q (k + 1) x)
  cap_after x l = elim (cases_Bool (accessed h x here)) [
    | inl touched ↦ step.under x l touched
    | inr untouched ↦
        let a = amount_other x l untouched in
        let v = ap (C x) (value_other x (unaccessed h x here untouched)) in
        let c = so_far.cap x l in
        omega (arith, a, v, c)
  ]

  -- ---- a member of S

  -- a member that accesses an item follows all earlier writers of the item
  with_writers : S here ≡ true → (x : ℕ) → accessed h x here ≡ true → HasWriters h q S k x
  with_writers t x touched i l w = earlier_writer h q good S closed x i k l inside w touched t

  with_accessors : S here ≡ true → (x : ℕ) → Wrote h x here → HasAccessors h q S k x
  with_accessors t x w i l touched = earlier_accessor h q good S closed x i k l inside touched w t

  no_lack : S here ≡ true → (x : ℕ) → accessed h x here ≡ true → LacksWriter h q S k x → ⊥
  no_lack t x touched lack = true≢false (sym (with_writers t x touched lack.0 lack.1 lack.2) ∙ lack.3)

  abbrev moved : (ℕ → ℕ) → (Amount → ℕ) → ℕ → ℕ
  moved own f x = elim (empty_or_not (values_by h x here)) [ inl e ↦ (own x + f (after x)) - f (amounts x) | inr w ↦ f (after x) ]

  moved_not : (own : ℕ → ℕ) (f : Amount → ℕ) (x : ℕ) → values_by h x here ≡ [] → moved own f x ≡ (own x + f (after x)) - f (amounts x)
  moved_not own f x e = at (empty_or_not (values_by h x here))
    where
      at : (c : (values_by h x here ≡ []) ⊎ (values_by h x here ≡ [] → ⊥)) → elim c as (λ _. ℕ) [ inl e ↦ (own x + f (after x)) - f (amounts x) | inr w ↦ f (after x) ] ≡ (own x + f (after x)) - f (amounts x)
      at (inl g) = refl
      at (inr ne) = absurd (ne e)

  moved_to : (own : ℕ → ℕ) (f : Amount → ℕ) (x : ℕ) → Wrote h x here → moved own f x ≡ f (after x)
  moved_to own f x w = at (empty_or_not (values_by h x here))
    where
      at : (c : (values_by h x here ≡ []) ⊎ (values_by h x here ≡ [] → ⊥)) → elim c as (λ _. ℕ) [ inl e ↦ (own x + f (after x)) - f (amounts x) | inr w ↦ f (after x) ] ≡ f (after x)
      at (inl g) = absurd (w g)
      at (inr ne) = refl

  abbrev of_amount : Amount → ℕ
  of_amount a = a.amount

  abbrev of_loan : Amount → ℕ
  of_loan a = a.loan

  -- the value after a member is the one that it leaves in the full order
  value_not : (x : ℕ) → values_by h x here ≡ [] → S here ≡ true → left_by h q S (k + 1) x ≡ left_by h q S k x
  value_not x e t = left_with h q S k x inside t ∙ ap (last_value (left_by h q S k x)) e

  value_to : (x : ℕ) → Wrote h x here → S here ≡ true → left_by h q S (k + 1) x ≡ left_by_all h q (k + 1) x
  value_to x w t =
      left_with h q S k x inside t
      ∙ last_value-some (values_by h x here) (left_by h q S k x) (left_by_all h q k x) w
      ∙ sym (all_more h q k x inside)

  -- where all writers are in S, S leaves the value of the full order
  value_same : (x : ℕ) → HasWriters h q S k x → left_by h q S k x ≡ left_by_all h q k x
  value_same x all = left_all h q S k x (λ i l m w. all i l w)

  own_under : S here ≡ true → (x : ℕ) → x < n → moved so_far.own of_amount x ≤ C x (left_by h q S (k + 1) x)
  own_under t x l = elim (empty_or_not (values_by h x here)) [
    | inl e ↦
        let a = moved_not so_far.own of_amount x e in
        let v = ap (C x) (value_not x e t) in
        elim (cases_Bool (accessed h x here)) [
          | inl touched ↦
              let most = so_far.most x l (with_writers t x touched) in
              let u = step.under x l touched in
              let w = ap (C x) (value_other x e) in
              let c = ap (C x) (value_same x (with_writers t x touched)) in
              omega (arith, a, v, most, u, w, c)
          | inr untouched ↦ let b = amount_other x l untouched in let u = so_far.under x l in omega (arith, a, v, b, u)
        ]
    | inr w ↦
        let a = moved_to so_far.own of_amount x w in
        let v = ap (C x) (value_to x w t) in
        let u = step.under x l (wrote_accessed h x here w) in
        omega (arith, a, v, u)
  ]

  own_most : S here ≡ true → (x : ℕ) → x < n → HasWriters h q S (k + 1) x → moved so_far.own of_amount x ≤ (after x).amount
  own_most t x l all = elim (empty_or_not (values_by h x here)) [
    | inl e ↦
        let a = moved_not so_far.own of_amount x e in
        let most = so_far.most x l (writers_before x all) in
        omega (arith, a, most)
    | inr w ↦ let a = moved_to so_far.own of_amount x w in omega (arith, a)
  ]

  own_same : S here ≡ true → (x : ℕ) → x < n → HasAccessors h q S (k + 1) x → (moved so_far.own of_amount x ≡ (after x).amount) × (moved so_far.loan of_loan x ≡ (after x).loan)
  own_same t x l all = elim (empty_or_not (values_by h x here)) [
    | inl e ↦
        let a = moved_not so_far.own of_amount x e in
        let b = moved_not so_far.loan of_loan x e in
        let s = so_far.same x l (accessors_before x all) in
        (omega (arith, a, s.0), omega (arith, b, s.1))
    | inr w ↦ (moved_to so_far.own of_amount x w, moved_to so_far.loan of_loan x w)
  ]

  sums_moved : S here ≡ true → (own : ℕ → ℕ) (f : Amount → ℕ) → ((x : ℕ) → x < n → values_by h x here ≡ [] → f (amounts x) ≤ f (after x))
      → ((x : ℕ) → x < n → Wrote h x here → own x ≡ f (amounts x))
      → total n (moved own f) + total n (λ x. f (amounts x)) ≡ total n own + total n (λ x. f (after x))
  sums_moved t own f grows same = sum_moves (λ x. f (amounts x)) (λ x. f (after x)) own (moved own f) (range_with_len 0 n) (λ x i.
      let l : x < n = omega (arith, (range_in 0 n x i).1) in
      elim (empty_or_not (values_by h x here)) [
        | inl e ↦ let a = moved_not own f x e in let g = grows x l e in omega (arith, a, g)
        | inr w ↦ let a = moved_to own f x w in let b = same x l w in omega (arith, a, b)
      ])

  own_sum : S here ≡ true → worth + total n (moved so_far.loan of_loan) ≤ total n (moved so_far.own of_amount)
  own_sum t =
      let a = sums_moved t so_far.own of_amount step.raised (λ x l w. (so_far.same x l (with_accessors t x w)).0) in
      let b = sums_moved t so_far.loan of_loan step.lent (λ x l w. (so_far.same x l (with_accessors t x w)).1) in
      omega (arith, a, b, so_far.sum, step.sum)

  own_owed : S here ≡ true → HasMarkedSoFar h q marked S (k + 1) → (x : ℕ) → x < n → (after x).owed ≡ true → HasWriters h q S (k + 1) x → 0 < moved so_far.loan of_loan x
  own_owed t all x l owed writers = elim (empty_or_not (values_by h x here)) [
    | inl e ↦
        let b = moved_not so_far.loan of_loan x e in
        let g = step.lent x l e in
        elim (step.owed_by_reader x l e owed) [
          | inl was ↦ let p = so_far.owed (marked_before all) x l was (writers_before x writers) in omega (arith, b, g, p)
          | inr now ↦ omega (arith, b, now.1)
        ]
    | inr w ↦ let b = moved_to so_far.loan of_loan x w in let p = step.owed_by_writer x l w owed in omega (arith, b, p)
  ]

  still_more : S here ≡ true → CostsMore n C h q k amounts S so_far.own so_far.loan → CostsMore n C h q (k + 1) after S (moved so_far.own of_amount) (moved so_far.loan of_loan)
  still_more t (x, l, inl g) = elim (cases_Bool (accessed h x here)) [
    | inl touched ↦ absurd (no_lack t x touched g.0)
    | inr untouched ↦
        let e = unaccessed h x here untouched in
        let a = moved_not so_far.own of_amount x e in
        let b = moved_not so_far.loan of_loan x e in
        let c = amount_other x l untouched in
        let d = ap (λ (a : Amount). a.loan) (step.others x l untouched) in
        let v = ap (C x) (value_not x e t) in
        let s = g.1 in
        (x, l, inl (((g.0).0, omega (arith, (g.0).1), (g.0).2, (g.0).3), omega (arith, a, b, c, d, v, s)))
  ]
  still_more t (x, l, inr g) = elim (empty_or_not (values_by h x here)) [
    | inl e ↦
        let a = moved_not so_far.own of_amount x e in
        let r = step.raised x l e in
        let s = g.1 in
        (x, l, inr (writers_after g.0 e, omega (arith, a, r, s)))
    | inr w ↦ let same = (so_far.same x l (with_accessors t x w)).0 in let s = g.1 in absurd (omega (arith, same, s))
  ]
    where
      writers_after : HasWriters h q S k x → values_by h x here ≡ [] → HasWriters h q S (k + 1) x
      writers_after all e i m wrote = elim (cases_eq i k) [
        | inl same ↦ absurd (subst (λ j. Wrote h x (nth (updates_committed_before h q) j)) same wrote e)
        | inr ne ↦ all i (omega arith) wrote
      ]

  with_it : S here ≡ true → Carries n C h q worth (k + 1) after marked S
  with_it t = record {
    own = moved so_far.own of_amount;
    loan = moved so_far.loan of_loan;
    under = own_under t;
    cap = cap_after;
    most = own_most t;
    same = own_same t;
    sum = own_sum t;
    owed = own_owed t;
    marked = elim so_far.marked [
      | inl all ↦ inl (marked_with all (λ m. t))
      | inr more ↦ inr (still_more t more)
    ];
  }

  -- ---- an update that is not in S

  more_without : S here ≡ false → CostsMore n C h q k amounts S so_far.own so_far.loan → CostsMore n C h q (k + 1) after S so_far.own so_far.loan
  more_without f (x, l, inl g) =
      let v = ap (C x) (left_without h q S k x inside f) in
      let s = g.1 in
      (x, l, inl (((g.0).0, omega (arith, (g.0).1), (g.0).2, (g.0).3), omega (arith, v, s)))
  more_without f (x, l, inr g) = elim (empty_or_not (values_by h x here)) [
    | inl e ↦
        let r = step.raised x l e in
        let s = g.1 in (
          x,
          l,
          inr (
            (λ i m wrote. elim (cases_eq i k) [
              | inl same ↦ absurd (subst (λ j. Wrote h x (nth (updates_committed_before h q) j)) same wrote e)
              | inr ne ↦ g.0 i (omega arith) wrote
            ]),
            omega (arith, r, s),
          ),
        )
    | inr w ↦
        let c = so_far.cap x l in
        let s = g.1 in
        let v = ap (C x) (left_without h q S k x inside f ∙ value_same x g.0) in
        (x, l, inl ((k, omega arith, w, f), omega (arith, c, s, v)))
  ]

  -- a marked update that is not in S
  lacks_marked : S here ≡ false → HasMarkedSoFar h q marks S k → HasReason n C h q k amounts after marks → CostsMore n C h q (k + 1) after S so_far.own so_far.loan
  lacks_marked f all r =
      let every : HasWriters h q S k r.item = λ i l w.
      elim (r.writers i l w) [
        | inl m ↦ all i l m
        | inr j ↦ earlier_writer h q good S closed r.item i j.0 j.1 (let low : j.0 < k = j.2 in omega (arith, low, inside)) w (wrote_accessed h r.item (nth (updates_committed_before h q) j.0) j.3) (all j.0 j.2 j.4)
      ] in
      let most = so_far.most r.item r.known every in
      let cost : C r.item (left_by h q S (k + 1) r.item) ≡ C r.item (left_by_all h q k r.item) = ap (C r.item) (left_without h q S k r.item inside f ∙ value_same r.item every) in
      elim r.why [
        | inl w ↦ (
          r.item,
          r.known,
          inl (
            (k, omega arith, w.0, f),
            elim w.1 [
              | inl slack ↦ omega (arith, most, cost, slack)
              | inr owed ↦
                  let p = so_far.owed all r.item r.known owed every in
                  let cap = so_far.cap r.item r.known in
                  omega (arith, most, cost, p, cap)
            ],
          ),
        )
        | inr reads ↦
            let s = reads.2 in (
              r.item,
              r.known,
              inr (
                (λ i m wrote. elim (cases_eq i k) [
                  | inl same ↦ absurd (subst (λ j. Wrote h r.item (nth (updates_committed_before h q) j)) same wrote reads.0)
                  | inr ne ↦ every i (omega arith) wrote
                ]),
                omega (arith, most, s),
              ),
            )
      ]

  without_it : S here ≡ false → Carries n C h q worth (k + 1) after marked S
  without_it f = record {
    own = so_far.own;
    loan = so_far.loan;
    under = λ x l. let u = so_far.under x l in let v = ap (C x) (left_without h q S k x inside f) in omega (arith, u, v);
    cap = cap_after;
    most = λ x l all. elim (empty_or_not (values_by h x here)) [
      | inl e ↦ let m = so_far.most x l (writers_before x all) in let r = step.raised x l e in omega (arith, m, r)
      | inr w ↦ absurd (true≢false (sym (all k (omega arith) w) ∙ f))
    ];
    same = λ x l all. elim (cases_Bool (accessed h x here)) [
      | inl touched ↦ absurd (true≢false (sym (all k (omega arith) touched) ∙ f))
      | inr untouched ↦
          let s = so_far.same x l (accessors_before x all) in
          (s.0 ∙ sym (amount_other x l untouched), s.1 ∙ sym (ap (λ (a : Amount). a.loan) (step.others x l untouched)))
    ];
    sum = so_far.sum;
    owed = λ all x l owed writers. elim (empty_or_not (values_by h x here)) [
      | inl e ↦ elim (step.owed_by_reader x l e owed) [
        | inl was ↦ so_far.owed (marked_before all) x l was (writers_before x writers)
        | inr now ↦ absurd (true≢false (sym (all k (omega arith) now.0) ∙ f))
      ]
      | inr w ↦ absurd (true≢false (sym (writers k (omega arith) w) ∙ f))
    ];
    marked = elim so_far.marked [
      | inl all ↦ elim (cases_Bool (mark_at marked k)) [
        | inl m ↦ elim (step.mark m) [
          | inl s ↦ absurd (true≢false (sym (seeded s) ∙ f))
          | inr r ↦ inr (lacks_marked f all r)
        ]
        | inr unmarked ↦ inl (marked_with all (λ m. absurd (true≢false (sym m ∙ unmarked))))
      ]
      | inr more ↦ inr (more_without f more)
    ];
  }

  pub after_update : Carries n C h q worth (k + 1) after marked S
  after_update = elim (cases_Bool (S here)) [ inl t ↦ with_it t | inr f ↦ without_it f ]

pub law_of_updates : LawOfUpdates
law_of_updates d h q n C worth k amounts after seed marks marked S legal inside step closed seeded so_far =
    after_update h q (in_order d h q legal) n C worth k inside amounts after seed marks marked step S closed seeded so_far

-- ---- the start

pub law_of_start : LawOfStart
law_of_start d h q n C worth k amounts marks S legal start closed =
    let good : InOrder h q = in_order d h q legal in
    let musts : map (update_at h q) (range_with_len 0 k) ≡ must h q = must_positions d h q legal k start.seen in
    let every : (i : ℕ) → i < k → S (nth (updates_committed_before h q) i) ≡ true = λ i l.
    closed.holds_must (nth (updates_committed_before h q) i) (In-Contains (must h q) (nth (updates_committed_before h q) i) (subst (In (nth (updates_committed_before h q) i)) musts (in_map (update_at h q) (range_with_len 0 k) i (in_range 0 k i (omega arith) (omega arith))))) in record {
      own = λ x. (amounts x).amount;
      loan = λ x. (amounts x).loan;
      under = λ x l. let u = start.under x l in let v = ap (C x) (left_all h q S k x (λ i m _ w. every i m)) in omega (arith, u, v);
      cap = start.under;
      most = λ x l all. omega arith;
      same = λ x l all. (refl, refl);
      sum = omega (arith, start.sum);
      owed = λ all x l owed writers. start.owed x l owed;
      marked = inl (λ i l m. every i l);
    }

-- ---- the end

module _ (h : Schedule) (q n : ℕ) (C : ℕ → ℤ → ℕ) (worth : ℕ) (amounts : ℕ → Amount) (S : ℕ → Bool) (marks : List Bool) (below : Carries n C h q worth (length (updates_committed_before h q)) amounts marks S) where
  at_end : (x : ℕ) → left_by h q S (length (updates_committed_before h q)) x ≡ state h (members h q S) x
  at_end x = ap (λ vs. state h (filter S vs) x) (take_all (length (updates_committed_before h q)) (updates_committed_before h q) (omega arith))

  under_cost : (x : ℕ) → In x (range_with_len 0 n) → below.own x ≤ C x (state h (members h q S) x)
  under_cost x i =
      let l : x < n = omega (arith, (range_in 0 n x i).1) in
      let u = below.under x l in
      let v = ap (C x) (at_end x) in
      omega (arith, u, v)

  costs_least : worth ≤ cost_by n C h q S
  costs_least =
      let a : total n below.own ≤ cost_by n C h q S = sum_le below.own (λ x. C x (state h (members h q S) x)) (range_with_len 0 n) under_cost in
      omega (arith, a, below.sum)

  -- at the item because of which S costs more, the amount is less than the cost and the loans
  costs_more : (g : CostsMore n C h q (length (updates_committed_before h q)) amounts S below.own below.loan) → below.own g.0 < C g.0 (state h (members h q S) g.0) + below.loan g.0
  costs_more (x, l, inl g) = let v = ap (C x) (at_end x) in let s = g.1 in omega (arith, v, s)
  costs_more (x, l, inr g) =
      let c = below.cap x l in
      let s = g.1 in
      let v = ap (C x) (sym (at_end x) ∙ left_all h q S (length (updates_committed_before h q)) x (λ i l m w. g.0 i l w)) in
      omega (arith, c, s, v)

  has_marked : cost_by n C h q S ≤ worth → HasMarked h q marks S
  has_marked low = elim below.marked [
    | inl all ↦ all
    | inr g ↦
        let sums : sum_by (λ x. C x (state h (members h q S) x) + below.loan x) (range_with_len 0 n) ≡ cost_by n C h q S + total n below.loan = sum_both (λ x. C x (state h (members h q S) x)) below.loan (range_with_len 0 n) in
        let a : total n below.own < sum_by (λ x. C x (state h (members h q S) x) + below.loan x) (range_with_len 0 n) = sum_lt below.own (λ x. C x (state h (members h q S) x) + below.loan x) (range_with_len 0 n) (λ x i. let u = under_cost x i in omega (arith, u)) g.0 (in_range 0 n g.0 (omega arith) (let l = g.1 in omega (arith, l))) (costs_more g) in
        absurd (omega (arith, a, sums, below.sum, low))
  ]

pub law_of_end : LawOfEnd
law_of_end h q n C worth amounts seeds marks below = record {
  bound = λ forced S closed. elim (le_or_lt worth (cost_by n C h q S)) [
    | inl l ↦ l
    | inr less ↦ costs_least h q n C worth amounts S marks (below S closed (forced S closed (lt_le less)))
  ];
  forced = λ forced S closed low. has_marked h q n C worth amounts S marks (below S closed (forced S closed low)) low;
}
  where
    le_or_lt : (a b : ℕ) → (a ≤ b) ⊎ (b < a)
    le_or_lt a b = elim (cases_lt b a) [ inl l ↦ inr l | inr m ↦ inl m ]

    lt_le : {a b : ℕ} → a < b → a ≤ b
    lt_le l = omega arith
