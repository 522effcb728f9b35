-- The elements of a list of the values of a function.
use Rattle.std.proofs.Common.{◌≡◌, ◌∙◌, ℕ, ◌+◌, ◌≤◌, List, [], ◌∷◌, ◌++◌, ap, ap₂, sym, length, take, Some, map, slice_get, get_or, arith}
use Rattle.std.specs.List.{range_with_len}
use Rattle.std.proofs.lemmas.List.{take_more}
use Rattle.std.proofs.lemmas.Option.{slice_get_within, get_or_from_slice_get}
use Rattle.std.proofs.lemmas.List.FromFn.{get_or-map-range_with_len, length-map-range_with_len, map-range_with_len_more}

-- one element more
pub take_next : {X : Type 0} (xs : List X) (i : ℕ) (x : X) → slice_get xs i ≡ Some x → take (i + 1) xs ≡ take i xs ++ x ∷ []
take_next xs i x is = take_more xs i x (slice_get_within xs i x is) ∙ ap (λ y. take i xs ++ y ∷ []) (get_or_from_slice_get xs i x x is)

-- an element of a list of a function's values
pub value_there : (f : ℕ → ℕ) (n t : ℕ) (xs : List ℕ) (x : ℕ) → xs ≡ map f (range_with_len 0 (n + 1)) → t ≤ n → x ≡ get_or xs t x → x ≡ f t
value_there f n t xs x is low same =
    same ∙ (ap (λ (l : List ℕ). get_or l t x) is ∙ get_or-map-range_with_len f 0 (n + 1) t t x (omega (arith, low)) (omega arith))

pub value_missing : (f : ℕ → ℕ) (n t : ℕ) (xs : List ℕ) → xs ≡ map f (range_with_len 0 (n + 1)) → t ≤ n → length xs ≤ t → ⊥
value_missing f n t xs is low past =
    let long : length xs ≡ n + 1 = ap length is ∙ length-map-range_with_len f 0 (n + 1) in
    omega (arith, long, low, past)

pub value_more : {X : Type 0} (f : ℕ → X) (n : ℕ) (xs new : List X) (x : X) → xs ≡ map f (range_with_len 1 n) → new ≡ xs ++ x ∷ [] → x ≡ f (n + 1) → new ≡ map f (range_with_len 1 (n + 1))
value_more f n xs new x so_far grew is = grew ∙ (ap₂ (λ l y. l ++ y ∷ []) so_far is ∙ sym (map-range_with_len_more f 1 n (n + 1) (omega arith)))
