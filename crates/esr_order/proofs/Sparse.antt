-- The results of the entries at some indices of a log, and the indices of a key.
use Rattle.std.proofs.Common.{◌≡◌, ℕ, zero, suc, ◌+◌, ◌<◌, ◌≤◌, Bool, true, false, List, [], ◌∷◌, length, refl, sym, ◌∙◌, ap, subst, arith, inl, inr, ⊎_elim, Option, Some, None, if◌then◌else◌}
use Rattle.std.specs.List.{filter_map, cons_option, slice_get, range_with_len}
use Rattle.std.specs.List.Sorted.{IsStrictlyIncreasing}
use Rattle.std.proofs.lemmas.Bool.{cases_order}
use Rattle.std.proofs.lemmas.Option.{same_Some}
use Rattle.std.proofs.lemmas.List.Kept.{AllPairs-from_increasing}
use Rattle.esr_history.specs.declared.event.Entry.{Entry}
use Rattle.esr_history.specs.BackLinks.{is_some_eq, places_from}
use Rattle.esr_history.proofs.Membership.{In, Pairs, Pairs-from_all, each_at}
use Rattle.esr_order.proofs.Entries.{all_entries}

abbrev from : {X Y : Type 0} → (X → Option Y) → Option X → Option Y
from f None = None
from f (Some x) = f x

twice : {X Y Z : Type 0} (g : X → Option Y) (f : Y → Option Z) (xs : List X) → filter_map f (filter_map g xs) ≡ filter_map (λ x. from f (g x)) xs
twice g f [] = refl
twice g f (x ∷ xs) = at (g x) (twice g f xs)
  where
    at : (o : Option _) → filter_map f (filter_map g xs) ≡ filter_map (λ x. from f (g x)) xs → filter_map f (cons_option o (filter_map g xs)) ≡ cons_option (from f o) (filter_map (λ x. from f (g x)) xs)
    at None rest = rest
    at (Some y) rest = ap (cons_option (f y)) rest

-- an ascending list in a range yields the same as the range if the numbers that it lacks yield nothing
sub_range : {Y : Type 0} (g : ℕ → Option Y) (a m : ℕ) (xs : List ℕ) → Pairs (λ i j. i < j) xs → ((i : ℕ) → In i xs → a ≤ i) → ((i : ℕ) → In i xs → i < a + m) → ((i : ℕ) → a ≤ i → i < a + m → (In i xs → ⊥) → g i ≡ None)
    → filter_map g xs ≡ filter_map g (range_with_len a m)
sub_range g a zero [] rise low high none = refl
sub_range g a zero (x ∷ xs) rise low high none = let l : a ≤ x = low x (inl refl) in let h : x < a + 0 = high x (inl refl) in absurd (omega (arith, l, h))
sub_range g a (suc m) [] rise low high none =
    sub_range g (a + 1) m [] tt (λ i j. absurd j) (λ i j. absurd j) (λ i l h out. none i (omega arith) (omega arith) out)
    ∙ ap (λ o. cons_option o (filter_map g (range_with_len (a + 1) m))) (sym (none a (omega arith) (omega arith) (λ j. j)))
sub_range g a (suc m) (x ∷ xs) rise low high none =
    let above : (i : ℕ) → In i xs → x < i = λ i j. each_at (λ j. x < j) xs i rise.0 j in
    ⊎_elim
    (λ e.
    ap (cons_option (g x)) (sub_range g (a + 1) m xs rise.1 (λ i j. let l : x < i = above i j in omega (arith, l, e)) (λ i j. let h : i < a + suc m = high i (inr j) in omega (arith, h))
    (λ i l h out. none i (omega arith) (omega arith) (λ j. ⊎_elim (λ f. absurd (omega (arith, f, e, l))) (λ k. out k) j)))
    ∙ ap (λ y. cons_option (g y) (filter_map g (range_with_len (a + 1) m))) e)
    (λ ne.
    let under : a < x = ⊎_elim (λ lt. let l : a ≤ x = low x (inl refl) in absurd (omega (arith, lt, l))) (λ gt. gt) ne in
    sub_range g (a + 1) m (x ∷ xs) rise (λ i j. ⊎_elim (λ f. omega (arith, f, under)) (λ k. let l : x < i = above i k in omega (arith, l, under)) j) (λ i j. let h : i < a + suc m = high i j in omega (arith, h))
    (λ i l h out. none i (omega arith) (omega arith) out)
    ∙ ap (λ o. cons_option o (filter_map g (range_with_len (a + 1) m)))
    (sym (none a (omega arith) (omega arith) (λ j. ⊎_elim (λ f. absurd (omega (arith, f, under))) (λ k. let l : x < a = above a k in absurd (omega (arith, l, under))) j))))
    (cases_order x a)

-- the entries at some ascending indices yield the same as all of them if no other entry yields anything
pub sparse_entries : {Y : Type 0} (f : Entry → Option Y) (es : List Entry) (at : List ℕ) → IsStrictlyIncreasing at → ((i : ℕ) → In i at → i < 0 + length es)
    → ((i : ℕ) (e : Entry) → slice_get es i ≡ Some e → (In i at → ⊥) → f e ≡ None) → filter_map f (filter_map (slice_get es) at) ≡ filter_map f es
sparse_entries f es at rises inside yields =
    twice (slice_get es) f at
    ∙ (sub_range (λ i. from f (slice_get es i)) 0 (length es) at (Pairs-from_all (λ i j. i < j) at (AllPairs-from_increasing at rises)) (λ i j. omega arith) inside (λ i l h out. nothing i (slice_get es i) refl out)
    ∙ (sym (twice (slice_get es) f (range_with_len 0 (length es))) ∙ ap (filter_map f) (all_entries es)))
  where
    nothing : (i : ℕ) (o : Option Entry) → slice_get es i ≡ o → (In i at → ⊥) → from f o ≡ None
    nothing i None is out = refl
    nothing i (Some e) is out = yields i e is out

-- the places of a key
pub in_places : (key : Entry → Option ℕ) (k n : ℕ) (es : List Entry) (i : ℕ) (e : Entry) → slice_get es i ≡ Some e → is_some_eq (key e) k ≡ true → In (n + i) (places_from key k n es)
in_places key k n [] i e is has = absurd (cc)
in_places key k n (f ∷ es) zero e is has =
    let z : n ≡ n + 0 = omega arith in
    let own : is_some_eq (key f) k ≡ true = ap (λ (e : Entry). is_some_eq (key e) k) (same_Some f e is) ∙ has in
    subst (In (n + 0)) (sym (ap (λ b. if b then n ∷ places_from key k (n + 1) es else places_from key k (n + 1) es) own)) (inl z)
in_places key k n (f ∷ es) (suc i) e is has =
    let shift : n + 1 + i ≡ n + suc i = omega arith in
    at (is_some_eq (key f) k) (subst (λ m. In m (places_from key k (n + 1) es)) shift (in_places key k (n + 1) es i e is has))
  where
    at : (b : Bool) → In (n + suc i) (places_from key k (n + 1) es) → In (n + suc i) (if b then n ∷ places_from key k (n + 1) es else places_from key k (n + 1) es)
    at true j = inr j
    at false j = j
