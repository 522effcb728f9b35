-- The effect of an edit of a list on the elements after the first s.
use Rattle.std.proofs.Common.{◌≡◌, ℕ, ◌+◌, ◌*◌, ◌<◌, ◌≤◌, List, [], ◌∷◌, ◌++◌, length, length-drop, refl, ap, subst, arith, zero, suc, drop, set}
use Rattle.std.specs.List.{insert, remove}
use Rattle.esr_history.specs.Ascending.{IsAscendingBy, IsPlaceOf}
use Rattle.esr_history.proofs.Ascending.{others, others_at}

module _ {X : Type 0} where
  pub drop-insert : (xs : List X) (s i k : ℕ) (x : X) → s ≤ length xs → k ≡ s + i → drop s (insert xs k x) ≡ insert (drop s xs) i x
  drop-insert xs zero i k x l is = ap (λ n. insert xs n x) (omega (arith, is))
  drop-insert [] (suc s) i k x l is = absurd (omega arith)
  drop-insert (y ∷ ys) (suc s) i zero x l is = absurd (omega arith)
  drop-insert (y ∷ ys) (suc s) i (suc k) x l is = drop-insert ys s i k x (omega arith) (omega arith)

  pub drop-remove : (xs : List X) (s i k : ℕ) → s ≤ length xs → k ≡ s + i → drop s (remove xs k) ≡ remove (drop s xs) i
  drop-remove xs zero i k l is = ap (remove xs) (omega (arith, is))
  drop-remove [] (suc s) i k l is = absurd (omega arith)
  drop-remove (y ∷ ys) (suc s) i zero l is = absurd (omega arith)
  drop-remove (y ∷ ys) (suc s) i (suc k) l is = drop-remove ys s i k (omega arith) (omega arith)

  pub drop-set_after : (xs : List X) (s i k : ℕ) (x : X) → s ≤ length xs → k ≡ s + i → drop s (set xs k x) ≡ set (drop s xs) i x
  drop-set_after xs zero i k x l is = ap (λ n. set xs n x) (omega (arith, is))
  drop-set_after [] (suc s) i k x l is = absurd (omega arith)
  drop-set_after (y ∷ ys) (suc s) i zero x l is = absurd (omega arith)
  drop-set_after (y ∷ ys) (suc s) i (suc k) x l is = drop-set_after ys s i k x (omega arith) (omega arith)

  -- the suffix without its first element
  pub drop_one_more : (xs : List X) (s n i : ℕ) → s < length xs → n ≡ s + 1 → i ≡ 0 → drop n xs ≡ remove (drop s xs) i
  drop_one_more xs zero n i l is first =
      let one : n ≡ 1 = omega (arith, is) in
      rw (one, first) refl
  drop_one_more [] (suc s) n i l is first = absurd (omega arith)
  drop_one_more (y ∷ ys) (suc s) zero i l is first = absurd (omega arith)
  drop_one_more (y ∷ ys) (suc s) (suc n) i l is first = drop_one_more ys s n i (omega arith) (omega arith) first

-- at the index of the number, only this element is dropped
pub others_removed : {X : Type 0} (key : X → ℕ) (t i : ℕ) (xs : List X) → IsAscendingBy key xs → IsPlaceOf key xs t i → others key t xs ≡ remove xs i
others_removed key t i [] asc place = absurd (omega (arith, place.in_range))
others_removed key t i (x ∷ xs) asc place = others_at key t i (x ∷ xs) x asc place

-- a list at most half of which is dropped is empty if nothing is left
pub nothing_dropped : {X : Type 0} (s : ℕ) (xs : List X) → 2 * s ≤ length xs → drop s xs ≡ [] → s ≡ 0
nothing_dropped s xs half none =
    let left : length (drop s xs) ≡ 0 = ap length none in
    omega (arith, half, left, length-drop s xs)

pub nothing_left : {X : Type 0} (s : ℕ) (xs : List X) (x : X) → 2 * s ≤ length xs → drop s xs ≡ [] → drop s (xs ++ x ∷ []) ≡ x ∷ []
nothing_left s xs x half none =
    let zero_dropped : s ≡ 0 = nothing_dropped s xs half none in
    let empty : xs ≡ [] = subst (λ n. drop n xs ≡ []) zero_dropped none in
    rw (zero_dropped, empty) refl
