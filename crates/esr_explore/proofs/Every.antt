-- No order is left out: what an order begins with is among the first turns.
use Rattle.std.proofs.Common.{◌≡◌, ℕ, zero, suc, ◌+◌, ◌<◌, ◌≤◌, ◌==◌, List, [], ◌∷◌, ◌++◌, true, cond, refl, ◌∙◌, ap, sym, subst, arith, length, flat_map, nat_lt, take, drop, get_or, take_all, take-append-drop, drop-cons, lt-ltb, add-one, zero-add, append_assoc, append-nil}
use Rattle.std.specs.List.{range_with_len, Contains}
use Rattle.std.proofs.lemmas.Bool.Decides.{nat_tests}
use Rattle.std.proofs.lemmas.List.{take_more}
use Rattle.std.proofs.lemmas.List.Sums.{sum_by-append, sum_by-cons}
use Rattle.std.proofs.lemmas.List.FromFn.{length-range_with_len, get_or-range_with_len}
use Rattle.std.proofs.lemmas.List.Elements.{Contains-append_left, Contains-append_right}
use Rattle.std.proofs.lemmas.Grind.{flat_map-append}
use Rattle.esr_explore.specs.Orders.{IsOrder, first_turns, lines_of, longer, longer_by, turns_of}

-- an element of a part is in the whole
in_flat : {X Y : Type 0} (f : X → List Y) (xs : List X) (x : X) (y : Y) → Contains xs x → Contains (f x) y → Contains (flat_map f xs) y
in_flat f [] x y (k, lt, is) there = absurd (omega (arith, lt))
in_flat f (z ∷ xs) x y (zero, lt, is) there =
    Contains-append_left (f z) (flat_map f xs) y (subst (λ w. Contains (f w) y) (sym is) there)
in_flat f (z ∷ xs) x y (suc k, lt, is) there =
    Contains-append_right (f z) (flat_map f xs) y (in_flat f xs x y (k, omega (arith, lt), is) there)

in_range : (n b : ℕ) → b < n → Contains (range_with_len 0 n) b
in_range n b lt = (b, omega (arith, lt, length-range_with_len 0 n), get_or-range_with_len 0 n b b lt ∙ zero-add b)

itself : (b : ℕ) → (b == b) ≡ true
itself b = grind (arith, nat_tests)

-- before a block's turn at index k, it has had fewer turns than in the whole order
fewer_turns : (order : List ℕ) (k : ℕ) → k < length order → turns_of (get_or order k 0) (take k order) < turns_of (get_or order k 0) order
fewer_turns order k lt =
    let b = get_or order k 0 in
    let one : ℕ → ℕ = λ x. cond (x == b) 1 0 in
    let split : order ≡ take k order ++ b ∷ drop (suc k) order = sym (take-append-drop k order) ∙ ap (λ l. take k order ++ l) (drop-cons order k 0 lt) in
    let sum : turns_of b order ≡ turns_of b (take k order) + turns_of b (b ∷ drop (suc k) order) =
    ap (λ l. turns_of b l) split ∙ sum_by-append one (take k order) (b ∷ drop (suc k) order) in
    let here : one b ≡ 1 = ap (λ v. cond v 1 0) (itself b) in
    omega (arith, sum, sum_by-cons one b (drop (suc k) order), here)

within : (counts : List ℕ) (b : ℕ) → 0 < lines_of counts b → b < length counts
within [] b lt = absurd (omega (arith, lt))
within (c ∷ counts) zero lt = omega arith
within (c ∷ counts) (suc b) lt = omega (arith, within counts b lt)

-- one more turn of an order is one more turn of its prefix
step : (counts : List ℕ) (turns : ℕ) (order : List ℕ) → IsOrder counts turns order → (k : ℕ) → k < length order → Contains (longer counts (take k order)) (take (suc k) order)
step counts turns order is k lt =
    let b = get_or order k 0 in
    let before = take k order in
    let left : turns_of b before < lines_of counts b = omega (arith, fewer_turns order k lt, is.1 b) in
    let good : nat_lt (turns_of b before) (lines_of counts b) ≡ true = lt-ltb (turns_of b before) (lines_of counts b) left in
    let more : take (suc k) order ≡ before ++ b ∷ [] = ap (λ n. take n order) (sym (add-one k)) ∙ take_more order k 0 lt in
    let here : Contains (longer_by counts before b) (take (suc k) order) = rw good (0, omega arith, sym more) in
    in_flat (longer_by counts before) (range_with_len 0 (length counts)) b (take (suc k) order) (in_range (length counts) b (within counts b (omega (arith, left)))) here

-- a prefix of an order is among the first turns
reach : (counts : List ℕ) (turns : ℕ) (order : List ℕ) → IsOrder counts turns order → (k : ℕ) → k ≤ length order → Contains (first_turns counts k) (take k order)
reach counts turns order is zero le = (0, omega arith, refl)
reach counts turns order is (suc k) le =
    in_flat (longer counts) (first_turns counts k) (take k order) (take (suc k) order) (reach counts turns order is k (omega (arith, le))) (step counts turns order is k (omega (arith, le)))

-- each order is among them
pub every : (counts : List ℕ) (turns : ℕ) (order : List ℕ) → IsOrder counts turns order → Contains (first_turns counts turns) order
every counts turns order is =
    subst (λ w. Contains (first_turns counts turns) w) (take_all turns order (omega (arith, is.0))) (reach counts turns order is turns (omega (arith, is.0)))

-- the numbers up to one more
pub range-push : (a n : ℕ) → range_with_len a (n + 1) ≡ range_with_len a n ++ (a + n) ∷ []
range-push a zero = ap (λ (k : ℕ). k ∷ []) (omega arith)
range-push a (suc n) = rw add-one (ap (λ (ks : List ℕ). a ∷ ks) (sym (ap (λ (k : ℕ). range_with_len (a + 1) k) (add-one n)) ∙ (range-push (a + 1) n ∙ ap (λ (k : ℕ). range_with_len (a + 1) n ++ k ∷ []) (omega arith))))

-- orders as they are made, one more block at a time
pub one_more : (f : ℕ → List (List ℕ)) (out : List (List ℕ)) (n : ℕ) → (out ++ flat_map f (range_with_len 0 n)) ++ f n ≡ out ++ flat_map f (range_with_len 0 (n + 1))
one_more f out n =
    let same : 0 + n ≡ n = omega arith in
    append_assoc out (flat_map f (range_with_len 0 n)) (f n)
    ∙ ap (λ l. out ++ l) (ap (λ l. flat_map f (range_with_len 0 n) ++ l) (sym (append-nil (f n))) ∙ sym (flat_map-append f (range_with_len 0 n) (n ∷ [])))
    ∙ ap (λ l. out ++ flat_map f l) (ap (λ m. range_with_len 0 n ++ m ∷ []) (sym same) ∙ sym (range-push 0 n))
