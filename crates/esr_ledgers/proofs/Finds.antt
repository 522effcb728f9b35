-- A search through a list from its front.
use Rattle.std.proofs.Common.{◌≡◌, ℕ, zero, suc, ◌+◌, ◌-◌, ◌<◌, ap, sym, ◌∙◌, List, [], ◌∷◌, length, Bool, true, false, refl, arith, inl, inr, None, Some, get_or, take, find}
use Rattle.std.proofs.lemmas.Bool.{cases_Bool, cases_lt}
use Rattle.std.proofs.lemmas.List.{get_or_default, take_more}
use Rattle.std.proofs.lemmas.List.Folds.{find-append}
use Rattle.esr_history.specs.Ascending.{IsAscendingBy, IsGapFor}
use Rattle.esr_history.proofs.Ascending.{rises}

-- the first that passes is found
pub find_first : {X : Type 0} (p : X → Bool) (xs : List X) (i : ℕ) (d : X) → i < length xs → find p (take i xs) ≡ None → p (get_or xs i d) ≡ true → find p xs ≡ Some (get_or xs i d)
find_first p [] i d l none is = absurd (omega arith)
find_first p (x ∷ xs) zero d l none is = rw is refl
find_first p (x ∷ xs) (suc i) d l none is =
    elim (cases_Bool (p x)) [
      | inl passes ↦ let bad : Some x ≡ None = rw passes at none in absurd (cc)
      | inr fails ↦ rw fails (find_first p xs i d (omega arith) (rw fails at none) is)
    ]

pub find_none_more : {X : Type 0} (p : X → Bool) (xs : List X) (i : ℕ) (d : X) → i < length xs → find p (take i xs) ≡ None → p (get_or xs i d) ≡ false → find p (take (i + 1) xs) ≡ None
find_none_more p xs i d l none is = rw (take_more xs i d l, find-append, none, is) refl

-- a number above the last one of an ascending list belongs at its end
pub gap_last : {X : Type 0} (key : X → ℕ) (xs : List X) → IsAscendingBy key xs → (t : ℕ) (x : X) → x ≡ get_or xs (length xs - 1) x → key x < t → IsGapFor key xs t (length xs)
gap_last key xs ascends t x is below = record {
  in_range = omega arith;
  smaller_before = λ j d l.
      let last : get_or xs (length xs - 1) d ≡ x = get_or_default xs (length xs - 1) d x (omega (arith, l)) ∙ sym is in
      elim (cases_lt j (length xs - 1)) [
        | inl earlier ↦ let rising = rises key xs ascends j (length xs - 1) d earlier (omega (arith, l)) in let top = ap key last in omega (arith, rising, top, below)
        | inr at_end ↦ let same : j ≡ length xs - 1 = omega (arith, l, at_end) in let top = ap (λ i. key (get_or xs i d)) same ∙ ap key last in omega (arith, top, below)
      ];
  greater_after = λ j d l m. absurd (omega (arith, l, m));
}
