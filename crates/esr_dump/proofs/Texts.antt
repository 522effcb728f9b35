-- The text of one more item, and of one more entry.
use Rattle.std.proofs.Common.{◌≡◌, ℕ, zero, suc, ◌+◌, List, [], ◌∷◌, ◌++◌, Some, take, flat_map, slice_get, ◌∙◌, ap, sym, arith, append_assoc, append-nil}
use Rattle.std.specs.List.{range_with_len}
use Rattle.std.proofs.lemmas.Grind.{flat_map-append}
use Rattle.std.proofs.lemmas.Option.{same_Some}
use Rattle.esr_history.proofs.Charges.{range-push}

module _ {X : Type 0} (f : X → List ℕ) where
  last_more : (out : List ℕ) (xs : List X) (x : X) → (out ++ flat_map f xs) ++ f x ≡ out ++ flat_map f (xs ++ x ∷ [])
  last_more out xs x =
      append_assoc out (flat_map f xs) (f x)
      ∙ ap (λ l. out ++ l) (ap (λ l. flat_map f xs ++ l) (sym (append-nil (f x))) ∙ sym (flat_map-append f xs (x ∷ [])))

  one_more : (xs : List X) (i : ℕ) (x : X) → slice_get xs i ≡ Some x → take (suc i) xs ≡ take i xs ++ x ∷ []
  one_more [] i x is = absurd (cc)
  one_more (y ∷ xs) zero x is = ap (λ z. z ∷ []) (same_Some y x is)
  one_more (y ∷ xs) (suc i) x is = ap (λ l. y ∷ l) (one_more xs i x is)

  pub entry_more : (out : List ℕ) (xs : List X) (i : ℕ) (x : X) → slice_get xs i ≡ Some x
      → (out ++ flat_map f (take i xs)) ++ f x ≡ out ++ flat_map f (take (i + 1) xs)
  entry_more out xs i x is =
      let next : i + 1 ≡ suc i = omega arith in
      last_more out (take i xs) x ∙ ap (λ l. out ++ flat_map f l) (sym (one_more xs i x is) ∙ ap (λ n. take n xs) (sym next))

pub item_more : (f : ℕ → List ℕ) (out : List ℕ) (n : ℕ) → (out ++ flat_map f (range_with_len 0 n)) ++ f n ≡ out ++ flat_map f (range_with_len 0 (n + 1))
item_more f out n =
    let same : 0 + n ≡ n = omega arith in
    last_more f out (range_with_len 0 n) n
    ∙ ap (λ l. out ++ flat_map f l) (ap (λ m. range_with_len 0 n ++ m ∷ []) (sym same) ∙ sym (range-push 0 n))
