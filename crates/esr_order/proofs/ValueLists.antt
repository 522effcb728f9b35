-- Lists of values that were read, one for each item.
use Rattle.std.proofs.Common.{◌≡◌, ℕ, ℤ, refl, ◌<◌, List, [], ◌∷◌, ◌++◌, length, get_or, arith, ap, ◌∙◌, sym, zero, suc, Vec, Global, w64, FitsSigned}
use Rattle.std.proofs.lemmas.Int.{ints}
use Rattle.std.proofs.lemmas.List.{get_or-map}
use Rattle.esr_items.specs.Values.{IsValue}
use Rattle.esr_order.specs.ReadValues.{list_at}

pub value_fits : (v : ℤ) → IsValue v → FitsSigned w64 v
value_fits v h = omega (arith, ints)

pub list_push : (lists : List (Vec ℤ Global)) (v : Vec ℤ Global) → v.items ≡ [] → ((x : ℕ) → list_at lists x ≡ []) → (x : ℕ) → list_at (lists ++ v ∷ []) x ≡ []
list_push [] v e none zero = e
list_push [] v e none (suc x) = refl
list_push (w ∷ lists) v e none zero = none 0
list_push (w ∷ lists) v e none (suc x) = list_push lists v e (λ y. none (suc y)) x

-- the list at an index
pub list_is : (lists : List (Vec ℤ Global)) (x : ℕ) (v : Vec ℤ Global) → x < length lists → v ≡ get_or lists x v → v.items ≡ list_at lists x
list_is lists x v inside is =
    let items : Vec ℤ Global → List ℤ = λ w. w.items in
    ap items is ∙ sym (get_or-map items lists x v [] inside)
