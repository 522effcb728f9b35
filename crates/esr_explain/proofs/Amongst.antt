-- Updates that are among others.
use Rattle.std.proofs.Common.{◌≡◌, ℕ, zero, suc, ◌+◌, ◌<◌, Bool, true, false, cond, eqb, List, [], ◌∷◌, ◌++◌, length, get_or, take, map, filter, refl, ◌∙◌, ap, arith, Result, append-nil, nat_cmp, is_ok}
use Rattle.std.specs.List.Sorted.{IsBinarySearchResult, IsNonDecreasing}
use Rattle.std.proofs.lemmas.Bool.{or_left, or_right, or_from, cases_lt, eq-eqb, ne_eqb}
use Rattle.std.proofs.lemmas.List.{take_more}
use Rattle.std.proofs.lemmas.List.Sorted.{searched}
use Rattle.std.proofs.lemmas.List.Elements.{filter-append}
use Rattle.esr_base.specs.declared.numbers.TxnId.{TxnId}
use Rattle.esr_order.specs.Placements.{is_among}

among_at : (xs : List ℕ) (i u : ℕ) → i < length xs → get_or xs i 0 ≡ u → is_among xs u ≡ true
among_at [] i u l e = absurd (omega arith)
among_at (x ∷ xs) zero u l e = or_left (eqb x u) (is_among xs u) (eq-eqb x u e)
among_at (x ∷ xs) (suc i) u l e = or_right (eqb x u) (is_among xs u) (among_at xs i u (omega arith) e)

not_among : (xs : List ℕ) (u : ℕ) → ((k : ℕ) → k < length xs → get_or xs k 0 ≡ u → ⊥) → is_among xs u ≡ false
not_among [] u h = refl
not_among (x ∷ xs) u h = or_from (eqb x u) (is_among xs u) (ne_eqb x u (λ (e : x ≡ u). h 0 (omega arith) e)) (not_among xs u (λ k l e. h (suc k) (omega arith) e))

-- a number found by binary search is among the numbers
pub found_among : (xs : List ℕ) (u : ℕ) (r : Result ℕ ℕ) → IsNonDecreasing xs → IsBinarySearchResult (λ y. nat_cmp y u) xs r → is_ok r ≡ is_among xs u
found_among xs u r rises s = grind (arith, searched, among_at, not_among, cases_lt)

-- of one more element, what passes
filter_more : {X : Type 0} (p : X → Bool) (xs : List X) (k : ℕ) (d : X) → k < length xs → filter p (take (k + 1) xs) ≡ filter p (take k xs) ++ filter p (get_or xs k d ∷ [])
filter_more p xs k d l = ap (filter p) (take_more xs k d l) ∙ filter-append p (take k xs) (get_or xs k d ∷ [])

pub filter_passes : {X : Type 0} (p : X → Bool) (xs : List X) (k : ℕ) (d : X) → k < length xs → p (get_or xs k d) ≡ true → filter p (take (k + 1) xs) ≡ filter p (take k xs) ++ get_or xs k d ∷ []
filter_passes p xs k d l is = filter_more p xs k d l ∙ ap (λ b. filter p (take k xs) ++ cond b (get_or xs k d ∷ []) []) is

pub filter_fails : {X : Type 0} (p : X → Bool) (xs : List X) (k : ℕ) (d : X) → k < length xs → p (get_or xs k d) ≡ false → filter p (take (k + 1) xs) ≡ filter p (take k xs)
filter_fails p xs k d l is = filter_more p xs k d l ∙ (ap (λ b. filter p (take k xs) ++ cond b (get_or xs k d ∷ []) []) is ∙ append-nil (filter p (take k xs)))

-- updates that pass a test of their numbers
pub numbers_kept : (p : ℕ → Bool) (ts : List TxnId) → map (λ (t : TxnId). t.0) (filter (λ (t : TxnId). p t.0) ts) ≡ filter p (map (λ (t : TxnId). t.0) ts)
numbers_kept p [] = refl
numbers_kept p (t ∷ ts) = grind (arith, numbers_kept p ts, map, filter, cond)
