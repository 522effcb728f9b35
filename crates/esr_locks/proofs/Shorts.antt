-- A list that is read from the end, and whose elements are moved in a loop.
use Rattle.std.proofs.Common.{◌≡◌, ℕ, ◌+◌, ◌-◌, ◌<◌, ◌≤◌, List, [], ◌∷◌, ◌++◌, length, length-drop, refl, ◌∙◌, ap, subst, arith, zero, suc, take, drop, set, get_or, inl, inr}
use Rattle.std.specs.List.{insert, remove, copy_within}
use Rattle.std.proofs.Math.Seq.{take_all}
use Rattle.std.proofs.lemmas.List.{get_or_default}
use Rattle.std.proofs.lemmas.List.Edits.{take-paste}
use Rattle.std.proofs.lemmas.Bool.{cases_lt}
use Rattle.esr_history.specs.Ascending.{IsAscendingBy, IsGapFor}
use Rattle.esr_history.proofs.Ascending.{rises}

-- the place after the last number below t is where an element of number t would go
pub gap_after : {X : Type 0} (key : X → ℕ) (t end : ℕ) (xs : List X) (x : X) → IsAscendingBy key xs → 0 < end → end ≤ length xs → x ≡ get_or xs (end - 1) x → key x < t
    → ((j : ℕ) (d : X) → end ≤ j → j < length xs → t < key (get_or xs j d)) → IsGapFor key xs t end
gap_after key t end xs x asc some in_range is below above = record {
  in_range = in_range;
  smaller_before = λ j d l.
      let last : key (get_or xs (end - 1) d) < t = subst (λ y. key y < t) (is ∙ get_or_default xs (end - 1) x d (omega arith)) below in
      elim (cases_lt j (end - 1)) [
        | inl earlier ↦ let rising = rises key xs asc j (end - 1) d earlier (omega arith) in omega (arith, rising, last)
        | inr at_end ↦ let same : end - 1 ≡ j = omega (arith, l, at_end) in subst (λ k. key (get_or xs k d) < t) same last
      ];
  greater_after = above;
}

-- the elements after place i, moved down over it
pub moved_down : {X : Type 0} (xs : List X) (i n : ℕ) → n ≡ length xs → i < n → take (n - 1) (copy_within xs (i + 1) n i) ≡ remove xs i
moved_down xs i n len l =
    let one : i + 1 ≡ suc i = omega arith in
    let count : n - 1 ≡ i + (n - (i + 1)) = omega arith in
    ap (λ k. take k (copy_within xs (i + 1) n i)) count
    ∙ (take-paste xs i (drop (i + 1) xs) (n - (i + 1)) (omega (arith, len)) (omega (arith, len, length-drop (i + 1) xs))
    ∙ (ap (λ ys. take i xs ++ ys) (take_all (n - (i + 1)) (drop (i + 1) xs) (omega (arith, len, length-drop (i + 1) xs)))
    ∙ ap (λ k. take i xs ++ drop k xs) one))

-- an element appended is one inserted at the end
pub inserted_last : {X : Type 0} (xs : List X) (n : ℕ) (x : X) → n ≡ length xs → xs ++ x ∷ [] ≡ insert xs n x
inserted_last [] n x len = rw len refl
inserted_last (y ∷ ys) n x len = rw len (ap (λ zs. y ∷ zs) (inserted_last ys (length ys) x refl))

moved_past : {X : Type 0} (xs : List X) (k : ℕ) (x lower : X) → k < length xs → lower ≡ get_or (insert xs (suc k) x) k lower
    → set (set (insert xs (suc k) x) (suc k) lower) k x ≡ insert xs k x
moved_past [] k x lower l is = absurd (omega (arith, l))
moved_past (y ∷ ys) zero x lower l is = ap (λ z. x ∷ z ∷ ys) is
moved_past (y ∷ ys) (suc k) x lower l is = ap (λ zs. y ∷ zs) (moved_past ys k x lower (omega (arith, l)) is)

-- an inserted element, exchanged with the one before it
pub moved_one : {X : Type 0} (xs : List X) (place : ℕ) (x lower : X) → 0 < place → place ≤ length xs → lower ≡ get_or (insert xs place x) (place - 1) lower
    → set (set (insert xs place x) place lower) (place - 1) x ≡ insert xs (place - 1) x
moved_one xs place x lower some l is =
    let k = place - 1 in
    let next : place ≡ suc k = omega (arith, some) in
    let here : lower ≡ get_or (insert xs (suc k) x) k lower = is ∙ ap (λ p. get_or (insert xs p x) k lower) next in
    ap (λ p. set (set (insert xs p x) p lower) k x) next ∙ moved_past xs k x lower (omega (arith, some, l)) here
