-- Elements of a mapped list, and the number of receipts in the first lists of a list of lists.
use Rattle.std.proofs.Common.{◌≡◌, ℕ, zero, suc, ◌+◌, ◌<◌, ◌≤◌, List, [], ◌∷◌, ◌++◌, length, take, get_or, map, refl, ap, sym, ◌∙◌, arith}
use Rattle.std.proofs.lemmas.List.Sums.{sum_by-append, sum_by_more_le}
use Rattle.std.proofs.lemmas.List.{take_more, length-map}
use Rattle.esr_session.specs.Receipts.{count_in, Receipt}

pub get_or-mapped : {X Y : Type 0} (f : X → Y) (xs : List X) (i : ℕ) (d : X) → get_or (map f xs) i (f d) ≡ f (get_or xs i d)
get_or-mapped f [] i d = refl
get_or-mapped f (x ∷ xs) zero d = refl
get_or-mapped f (x ∷ xs) (suc i) d = get_or-mapped f xs i d

-- if x is the element of xs with the index i, or i is past the end, f x is that of map f xs
pub get_or-mapped_at : {X Y : Type 0} (f : X → Y) (xs : List X) (i : ℕ) (x : X) → x ≡ get_or xs i x → get_or (map f xs) i (f x) ≡ f x
get_or-mapped_at f xs i x is = get_or-mapped f xs i x ∙ ap f (sym is)

-- the number of receipts in the first i + 1 lists is that in the first i lists plus the length of the list i; it is at most
-- the number in all lists
pub count_in-next : {X : Type 0} (f : X → List Receipt) (xs : List X) (i : ℕ) (x : X) → i < length xs → x ≡ get_or xs i x
    → (count_in (take (i + 1) (map f xs)) ≡ count_in (take i (map f xs)) + length (f x)) × (count_in (take i (map f xs)) + length (f x) ≤ count_in (map f xs))
count_in-next f xs i x lt is =
    let m = map f xs in
    let within : i < length m = omega (arith, length-map xs f, lt) in
    let t : count_in (take (i + 1) m) ≡ count_in (take i m ++ get_or m i (f x) ∷ []) = ap count_in (take_more m i (f x) within) in
    let s = sum_by-append length (take i m) (get_or m i (f x) ∷ []) in
    let e : length (get_or m i (f x)) ≡ length (f x) = ap length (get_or-mapped_at f xs i x is) in
    (omega (arith, t, s, e), omega (arith, sum_by_more_le length m i (f x) within, e))
