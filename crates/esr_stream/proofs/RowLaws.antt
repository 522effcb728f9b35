-- The effect of one more access of an update on the states of items, and bounds on costs.
use Rattle.std.proofs.Common.{All, ◌≡◌, ◌≢◌, ℕ, zero, ℤ, ◌+◌, ◌-◌, ◌||◌, ◌<◌, ◌≤◌, Bool, true, false, cond, ◌&&◌, eqb, suc, ◌*◌, List, [], ◌∷◌, ◌++◌, length, length-append, filter, map, set, sum_by, refl, sym, ap, ◌∙◌, subst, inl, inr, arith, append-nil, eq-eqb, ne_eqb, get_or-set_same, get_or-set_other}
use Rattle.std.proofs.lemmas.Bool.{cases_eq, cases_lt, true≢false}
use Rattle.std.proofs.lemmas.List.{map-append, length-set}
use Rattle.std.specs.List.{AllByRecursion, list_any}
use Rattle.std.proofs.lemmas.List.Folds.{list_any-append}
use Rattle.std.proofs.Math.Nat.{suc-mul}
use Rattle.std.proofs.lemmas.List.Sums.{sum_by-set, sum_by-cons}
use Rattle.std.proofs.lemmas.List.Elements.{filter-append}
use Rattle.esr_history.specs.Events.{last_value}
use Rattle.esr_history.proofs.LastWriter.{last_value-append}
use Rattle.esr_order.specs.declared.accesses.Access.{Access}
use Rattle.esr_items.specs.Values.{IsValue}
use Rattle.std.proofs.lemmas.List.Elements.{recursion_from_All}
use Rattle.esr_history.proofs.Membership.{each_in, each_at}
use Rattle.esr_stream.specs.Reads.{distance_sum}
use Rattle.esr_stream.specs.declared.reads.TheConstants.{OFFSET}
use Rattle.esr_stream.specs.Passes.{ItemState, no_state, state_at, nth_access, is_access, is_write, written_in, amount_at, IsReadOf, IsWrittenBy, IsUpdateApplied, amounts_sum, loans_sum}

-- no access changes nothing
pub read_of_none : (marked : Bool) (s : ItemState) → IsReadOf marked s s
read_of_none marked s = record { cost = refl; covered = refl; raised = omega arith; lent = omega arith; owed = λ o. inl o }

-- one read after another
pub read_of_both : (marked : Bool) (a b c : ItemState) → IsReadOf marked a b → IsReadOf marked b c → IsReadOf marked a c
read_of_both marked a b c ab bc =
    let r = ab.raised in
    let t = bc.raised in
    let l = ab.lent in
    let m = bc.lent in record {
      cost = bc.cost ∙ ab.cost;
      covered = bc.covered ∙ ab.covered;
      raised = omega (arith, r, t);
      lent = omega (arith, l, m);
      owed = λ o. elim (bc.owed o) [
        | inl was ↦ elim (ab.owed was) [ inl first ↦ inl first | inr now ↦ let n = now.1 in inr (now.0, omega (arith, n, m)) ]
        | inr now ↦ let n = now.1 in inr (now.0, omega (arith, l, n))
      ];
    }

-- a read after a write by the same update
pub written_and_read : (marked : Bool) (a b : ItemState) → IsWrittenBy marked a → IsReadOf marked a b → IsWrittenBy marked b
written_and_read marked a b w r =
    let l = r.lent in record {
      covered = r.covered ∙ w.covered;
      owed = λ o. elim (r.owed o) [
        | inl was ↦ let p = w.owed was in omega (arith, p, l)
        | inr now ↦ let n = now.1 in omega (arith, n)
      ];
    }

-- an access of a longer list
nth_before : (row : List Access) (a : Access) (j : ℕ) → j < length row → nth_access (row ++ a ∷ []) j ≡ nth_access row j
nth_before [] a j l = absurd (omega arith)
nth_before (b ∷ row) a zero l = refl
nth_before (b ∷ row) a (suc j) l = nth_before row a j (omega arith)

nth_last : (row : List Access) (a : Access) → nth_access (row ++ a ∷ []) (length row) ≡ a
nth_last [] a = refl
nth_last (b ∷ row) a = nth_last row a

length_more : (row : List Access) (a : Access) → length (row ++ a ∷ []) ≡ length row + 1
length_more row a = length-append row (a ∷ [])

-- an item that the longer list does not access
not_accessed : (x : ℕ) (row : List Access) (a : Access) → list_any (is_access x) (row ++ a ∷ []) ≡ false → (list_any (is_access x) row ≡ false) × (is_access x a ≡ false)
not_accessed x row a none = neither (list_any (is_access x) row) (is_access x a) (sym (list_any-append (is_access x) row (a ∷ []) ∙ ap (λ b. list_any (is_access x) row || b) (or_false (is_access x a))) ∙ none)
  where
    or_false : (b : Bool) → (b || false) ≡ b
    or_false true = refl
    or_false false = refl

    neither : (b c : Bool) → (b || c) ≡ false → (b ≡ false) × (c ≡ false)
    neither true c e = absurd (true≢false e)
    neither false c e = (refl, e)

written_more : (x : ℕ) (row : List Access) (a : Access) → written_in x (row ++ a ∷ []) ≡ written_in x row ++ written_in x (a ∷ [])
written_more x row a =
    ap (map (λ (b : Access). b.value)) (filter-append (is_write x) row (a ∷ []))
    ∙ map-append (λ (b : Access). b.value) (filter (is_write x) row) (filter (is_write x) (a ∷ []))

pub written_none : (x : ℕ) (row : List Access) (a : Access) → is_write x a ≡ false → written_in x (row ++ a ∷ []) ≡ written_in x row
written_none x row a e =
    written_more x row a
    ∙ ap (λ b. written_in x row ++ map (λ (c : Access). c.value) (cond b (a ∷ []) [])) e
    ∙ append-nil (written_in x row)

pub written_one : (x : ℕ) (row : List Access) (a : Access) → is_write x a ≡ true → written_in x (row ++ a ∷ []) ≡ written_in x row ++ a.value ∷ []
written_one x row a e =
    written_more x row a
    ∙ ap (λ b. written_in x row ++ map (λ (c : Access). c.value) (cond b (a ∷ []) [])) e

module _ (C : ℕ → ℤ → ℕ) (marked : Bool) (proposed : ℕ → ℕ) (row : List Access) (a : Access) (old new : List ItemState) (before after : ℕ) (so_far : IsUpdateApplied C marked proposed row old new before after)
    (inside : a.item.0 < length old) (item : ItemState) (next : List ItemState) (put : next ≡ set new a.item.0 item) where
  there : a.item.0 < length new
  there = omega (arith, so_far.len, inside)

  own : state_at next a.item.0 ≡ item
  own = ap (λ states. state_at states a.item.0) put ∙ get_or-set_same new a.item.0 item no_state there

  other : (x : ℕ) → x ≢ a.item.0 → state_at next x ≡ state_at new x
  other x ne = ap (λ states. state_at states x) put ∙ get_or-set_other new a.item.0 x item no_state ne

  -- a property of this item and of each other item is one of every item
  each : (P : ℕ → Type 0) → P a.item.0 → ((x : ℕ) → x ≢ a.item.0 → P x) → (x : ℕ) → P x
  each P here rest x = elim (cases_eq x a.item.0) [ inl e ↦ subst P (sym e) here | inr ne ↦ rest x ne ]

  sized : length next ≡ length old
  sized = ap (λ states. length states) put ∙ length-set new a.item.0 item ∙ so_far.len

  amounts_moved : amounts_sum next + (state_at new a.item.0).amount ≡ amounts_sum new + item.amount
  amounts_moved = let s = sum_by-set (λ (i : ItemState). i.amount) new a.item.0 item no_state there in let e = ap amounts_sum put in omega (arith, s, e)

  loans_moved : loans_sum next + (state_at new a.item.0).loan ≡ loans_sum new + item.loan
  loans_moved = let s = sum_by-set (λ (i : ItemState). i.loan) new a.item.0 item no_state there in let e = ap loans_sum put in omega (arith, s, e)

  others_more : (x : ℕ) → list_any (is_access x) (row ++ a ∷ []) ≡ false → state_at next x ≡ state_at old x
  others_more x none =
      let parts = not_accessed x row a none in
      other x (λ e. true≢false (sym (eq-eqb a.item.0 x (sym e)) ∙ parts.1)) ∙ so_far.others x parts.0

  -- the raises of the accesses before this one
  Raised : List ItemState → Access → Type 0
  Raised states b = amount_at old b.item.0 < amount_at states b.item.0

  module _ (reads : a.writes ≡ false) (is : IsReadOf marked (state_at new a.item.0) item) (low : (state_at new a.item.0).amount ≤ (state_at new a.item.0).cost → item.amount ≤ item.cost)
      (rises : OFFSET < proposed (length row) → (state_at new a.item.0).amount < (state_at new a.item.0).cost → (state_at new a.item.0).amount < item.amount) where
    same : (x : ℕ) → written_in x (row ++ a ∷ []) ≡ written_in x row
    same x = written_none x row a (ap (λ b. b && eqb a.item.0 x) reads)

    next_is : (x : ℕ) → IsReadOf marked (state_at new x) (state_at next x)
    next_is = each (λ x. IsReadOf marked (state_at new x) (state_at next x)) (subst (IsReadOf marked (state_at new a.item.0)) (sym own) is) (λ x ne. subst (IsReadOf marked (state_at new x)) (sym (other x ne)) (read_of_none marked (state_at new x)))

    raises_more : (j : ℕ) → j < length (row ++ a ∷ []) → (nth_access (row ++ a ∷ []) j).writes ≡ false → (nth_access (row ++ a ∷ []) j).item.0 < length old → OFFSET < proposed j
        → written_in (nth_access (row ++ a ∷ []) j).item.0 (row ++ a ∷ []) ≡ [] → amount_at old (nth_access (row ++ a ∷ []) j).item.0 < (state_at old (nth_access (row ++ a ∷ []) j).item.0).cost
        → amount_at old (nth_access (row ++ a ∷ []) j).item.0 < amount_at next (nth_access (row ++ a ∷ []) j).item.0
    raises_more j l = elim (cases_eq j (length row)) [
      | inl e ↦ subst (λ (b : Access). b.writes ≡ false → b.item.0 < length old → OFFSET < proposed j → written_in b.item.0 (row ++ a ∷ []) ≡ [] → amount_at old b.item.0 < (state_at old b.item.0).cost → amount_at old b.item.0 < amount_at next b.item.0)
          (sym (ap (nth_access (row ++ a ∷ [])) e ∙ nth_last row a))
          (λ r i offers none slack.
          let was = so_far.read a.item.0 i (sym (same a.item.0) ∙ none) in
          let up = was.raised in
          let cost = was.cost in
          let moved = ap (λ (i : ItemState). i.amount) own in
          let grows = is.raised in
          elim (cases_lt (amount_at old a.item.0) (amount_at new a.item.0)) [
            | inl more ↦ omega (arith, more, grows, moved)
            | inr equal ↦
                let rise = rises (subst (λ n. OFFSET < proposed n) e offers) (omega (arith, up, equal, cost, slack)) in
                omega (arith, rise, up, moved)
          ])
      | inr ne ↦
          let low : j < length row = omega (arith, l, ne, length_more row a) in
          subst (λ (b : Access). b.writes ≡ false → b.item.0 < length old → OFFSET < proposed j → written_in b.item.0 (row ++ a ∷ []) ≡ [] → amount_at old b.item.0 < (state_at old b.item.0).cost → amount_at old b.item.0 < amount_at next b.item.0)
          (sym (nth_before row a j low))
          (λ r i offers none slack.
          let was = so_far.raises j low r i offers (sym (same (nth_access row j).item.0) ∙ none) slack in
          let grows = (next_is (nth_access row j).item.0).raised in
          omega (arith, was, grows))
    ]

    pub row_read : IsUpdateApplied C marked proposed (row ++ a ∷ []) old next (before + (item.loan - (state_at new a.item.0).loan)) (after + ((item.amount - (state_at new a.item.0).amount) + 0))
    row_read = record {
      len = sized;
      others = others_more;
      cost = λ x v l e. (next_is x).cost ∙ so_far.cost x v l e ∙ ap (λ vs. C x (last_value v vs)) (sym (same x));
      under = each (λ x. x < length old → amount_at old x ≤ (state_at old x).cost → amount_at next x ≤ (state_at next x).cost)
          (λ l u. let e = ap (λ (i : ItemState). i.cost) own in let f = ap (λ (i : ItemState). i.amount) own in let g = low (so_far.under a.item.0 l u) in omega (arith, e, f, g))
          (λ x ne l u. let e = ap (λ (i : ItemState). i.cost) (other x ne) in let f = ap (λ (i : ItemState). i.amount) (other x ne) in let g = so_far.under x l u in omega (arith, e, f, g));
      read = λ x l e. read_of_both marked (state_at old x) (state_at new x) (state_at next x) (so_far.read x l (sym (same x) ∙ e)) (next_is x);
      written = λ x l w. written_and_read marked (state_at new x) (state_at next x) (so_far.written x l (λ e. w (same x ∙ e))) (next_is x);
      raises = raises_more;
      sum =
          let up = is.raised in
          let lent = is.lent in
          omega (arith, amounts_moved, loans_moved, so_far.sum, up, lent);
    }

  module _ (writes : a.writes ≡ true) (is_cost : item.cost ≡ C a.item.0 a.value) (low : item.amount ≤ item.cost) (repaid : item.loan ≡ 0) (free : item.owed ≡ false) (covers : item.covered ≡ marked) where
    to_own : is_write a.item.0 a ≡ true
    to_own = ap (λ b. b && eqb a.item.0 a.item.0) writes ∙ eq-eqb a.item.0 a.item.0 refl

    to_other : (x : ℕ) → x ≢ a.item.0 → is_write x a ≡ false
    to_other x ne = ap (λ b. b && eqb a.item.0 x) writes ∙ ne_eqb a.item.0 x (λ e. ne (sym e))

    same_other : (x : ℕ) → x ≢ a.item.0 → written_in x (row ++ a ∷ []) ≡ written_in x row
    same_other x ne = written_none x row a (to_other x ne)

    some : written_in a.item.0 (row ++ a ∷ []) ≡ [] → ⊥
    some e = nonempty (written_in a.item.0 row) (sym (written_one a.item.0 row a to_own) ∙ e)
      where
        nonempty : (vs : List ℤ) → vs ++ a.value ∷ [] ≡ [] → ⊥
        nonempty [] e = cc
        nonempty (v ∷ vs) e = cc

    raises_before : (j : ℕ) → j < length (row ++ a ∷ []) → (nth_access (row ++ a ∷ []) j).writes ≡ false → (nth_access (row ++ a ∷ []) j).item.0 < length old → OFFSET < proposed j
        → written_in (nth_access (row ++ a ∷ []) j).item.0 (row ++ a ∷ []) ≡ [] → amount_at old (nth_access (row ++ a ∷ []) j).item.0 < (state_at old (nth_access (row ++ a ∷ []) j).item.0).cost
        → amount_at old (nth_access (row ++ a ∷ []) j).item.0 < amount_at next (nth_access (row ++ a ∷ []) j).item.0
    raises_before j l r = elim (cases_eq j (length row)) [
      | inl e ↦ absurd (true≢false (sym writes ∙ sym (ap (λ (b : Access). b.writes) (ap (nth_access (row ++ a ∷ [])) e ∙ nth_last row a)) ∙ r))
      | inr ne ↦
          let low_j : j < length row = omega (arith, l, ne, length_more row a) in
          subst (λ (b : Access). b.writes ≡ false → b.item.0 < length old → OFFSET < proposed j → written_in b.item.0 (row ++ a ∷ []) ≡ [] → amount_at old b.item.0 < (state_at old b.item.0).cost → amount_at old b.item.0 < amount_at next b.item.0)
          (sym (nth_before row a j low_j))
          (λ r' i offers none slack. elim (cases_eq (nth_access row j).item.0 a.item.0) [
            | inl e ↦ absurd (some (ap (λ x. written_in x (row ++ a ∷ [])) (sym e) ∙ none))
            | inr apart ↦
                let was = so_far.raises j low_j r' i offers (sym (same_other (nth_access row j).item.0 apart) ∙ none) slack in
                let f = ap (λ (i : ItemState). i.amount) (other (nth_access row j).item.0 apart) in
                omega (arith, was, f)
          ])
          r
    ]

    pub row_write : IsUpdateApplied C marked proposed (row ++ a ∷ []) old next (before + (state_at new a.item.0).amount) (after + (item.amount + (state_at new a.item.0).loan))
    row_write = record {
      len = sized;
      others = others_more;
      cost = each (λ x. (v : ℤ) → x < length old → (state_at old x).cost ≡ C x v → (state_at next x).cost ≡ C x (last_value v (written_in x (row ++ a ∷ []))))
          (λ v l e. ap (λ (i : ItemState). i.cost) own ∙ is_cost
          ∙ sym (ap (λ vs. C a.item.0 (last_value v vs)) (written_one a.item.0 row a to_own) ∙ ap (C a.item.0) (last_value-append v (written_in a.item.0 row) (a.value ∷ []))))
          (λ x ne v l e. ap (λ (i : ItemState). i.cost) (other x ne) ∙ so_far.cost x v l e ∙ ap (λ vs. C x (last_value v vs)) (sym (same_other x ne)));
      under = each (λ x. x < length old → amount_at old x ≤ (state_at old x).cost → amount_at next x ≤ (state_at next x).cost)
          (λ l u. let e = ap (λ (i : ItemState). i.cost) own in let f = ap (λ (i : ItemState). i.amount) own in omega (arith, e, f, low))
          (λ x ne l u. let e = ap (λ (i : ItemState). i.cost) (other x ne) in let f = ap (λ (i : ItemState). i.amount) (other x ne) in let g = so_far.under x l u in omega (arith, e, f, g));
      read = each (λ x. x < length old → written_in x (row ++ a ∷ []) ≡ [] → IsReadOf marked (state_at old x) (state_at next x))
          (λ l e. absurd (some e))
          (λ x ne l e. subst (IsReadOf marked (state_at old x)) (sym (other x ne)) (so_far.read x l (sym (same_other x ne) ∙ e)));
      written = each (λ x. x < length old → (written_in x (row ++ a ∷ []) ≡ [] → ⊥) → IsWrittenBy marked (state_at next x))
          (λ l w. record { covered = ap (λ (i : ItemState). i.covered) own ∙ covers; owed = λ o. absurd (true≢false (sym o ∙ ap (λ (i : ItemState). i.owed) own ∙ free)) })
          (λ x ne l w. subst (IsWrittenBy marked) (sym (other x ne)) (so_far.written x l (λ e. w (same_other x ne ∙ e))));
      raises = raises_before;
      sum = omega (arith, amounts_moved, loans_moved, so_far.sum, repaid);
    }

-- the cost of a version is bounded, because distances are
pub sum_bounded : (D : ℤ → ℕ) (most : ℕ) (vs : List ℤ) → AllByRecursion (λ v. D v ≤ most) vs → sum_by D vs ≤ length vs * most
sum_bounded D most [] a = omega arith
sum_bounded D most (v ∷ vs) a =
    let here : D v ≤ most = a.0 in
    let rest : sum_by D vs ≤ length vs * most = sum_bounded D most vs a.1 in
    let e : length (v ∷ vs) * most ≡ most + length vs * most = more (length vs) most in
    omega (arith, sum_by-cons D v vs, here, rest, e)
  where
    more : (n m : ℕ) → suc n * m ≡ m + n * m
    more n m = omega (arith, suc-mul n m)

pub cost_bounded : (D : ℕ → ℤ → ℤ → ℕ) (x : ℕ) (v : ℤ) (vs : List ℤ) → ((a : ℤ) → IsValue a → D x a v ≤ 2000000000000000) → All IsValue vs → length vs ≤ 1000 → distance_sum D x vs v ≤ 2000000000000000000
cost_bounded D x v vs bounded values few =
    let s = sum_bounded (λ a. D x a v) 2000000000000000 vs (each_in (λ a. D x a v ≤ 2000000000000000) vs (λ a i. bounded a (each_at IsValue vs a (recursion_from_All IsValue vs values) i))) in
    omega (arith, s, few)
