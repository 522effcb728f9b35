-- The smallest number that passes a test, in a list that ascends.
use Rattle.std.proofs.Common.{◌≡◌, ℕ, ◌<◌, ◌≤◌, List, [], ◌∷◌, Bool, false, not, ◌&&◌, ◌==◌, refl, sym, ◌∙◌, arith, Option, None, Some, map, find, All, option_map}
use Rattle.std.specs.List.{list_any, AllByRecursion}
use Rattle.std.proofs.lemmas.Bool.{cases_eq, eq-eqb, ne_eqb, and_right, and_left}
use Rattle.std.proofs.lemmas.List.Elements.{All-cons, All-head, All-tail}
use Rattle.esr_history.specs.Ascending.{IsAscendingBy, IsSmallest}

pub IsSmallest-extensional : (p q : ℕ → Bool) (r : Option ℕ) → ((u : ℕ) → p u ≡ q u) → IsSmallest p r → IsSmallest q r
IsSmallest-extensional p q None same least = λ u. sym (same u) ∙ least u
IsSmallest-extensional p q (Some u) same least = (sym (same u) ∙ least.0, λ v l. sym (same v) ∙ least.1 v l)

module _ {X : Type 0} (key : X → ℕ) where
  none_lower : (a v : ℕ) → v ≤ a → (xs : List X) → AllByRecursion (λ y. a < key y) xs → list_any (λ y. key y == v) xs ≡ false
  none_lower a v l [] all = refl
  none_lower a v l (x ∷ xs) all =
      let h : a < key x = all.0 in
      rw (ne_eqb (key x) v (λ (e : key x ≡ v). omega arith)) (none_lower a v l xs all.1)

  -- the first element with another number than t has the smallest such number
  pub least_other : (t : ℕ) (xs : List X) → IsAscendingBy key xs → IsSmallest (λ u. not (u == t) && list_any (λ y. key y == u) xs) (option_map key (find (λ y. not (key y == t)) xs))
  least_other t [] asc = λ u. and_right (not (u == t)) false refl
  least_other t (x ∷ xs) asc =
      grind (arith, cases_eq, eq-eqb, IsSmallest-extensional, least_other t xs asc.1, ne_eqb, and_left, and_right, none_lower)

-- a property of each element of a mapped list
pub All-from_map : {X Y : Type 0} (f : X → Y) (P : Y → Type 0) (xs : List X) → All P (map f xs) → All (λ x. P (f x)) xs
All-from_map f P [] all = λ k d l. absurd (omega arith)
All-from_map f P (x ∷ xs) all = All-cons (λ z. P (f z)) x xs (All-head P (f x) (map f xs) all) (All-from_map f P xs (All-tail P (f x) (map f xs) all))
