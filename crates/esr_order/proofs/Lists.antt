-- Lists: the members of lists built from others, the index of an element, and pairs of elements that pass a test.
use Rattle.std.proofs.Common.{◌≡◌, ℕ, zero, suc, ◌<◌, ◌≤◌, slice_set, arith, Bool, true, false, List, [], ◌∷◌, ◌++◌, take, drop, append-nil, length, get_or, refl, sym, ◌∙◌, ap, inl, inr, ⊎_elim, filter, map, cond, subst, Option, Some, None}
use Rattle.std.specs.Prelude.{⊤}
use Rattle.std.specs.List.{list_any, filter_map, cons_option, slice_get, AllByRecursion}
use Rattle.std.proofs.lemmas.Bool.{true≢false, or_cases, cond_both}
use Rattle.std.proofs.lemmas.List.{drop_all, take_all}
use Rattle.std.proofs.lemmas.Option.{same_Some}
use Rattle.esr_history.specs.Serial.{any_ordered_pair}
use Rattle.esr_history.proofs.Membership.{In, In-any, Pairs, each_at}

pub in_map : {X Y : Type 0} (f : X → Y) (xs : List X) (x : X) → In x xs → In (f x) (map f xs)
in_map f [] x i = absurd i
in_map f (y ∷ xs) x i = ⊎_elim (λ e. inl (ap f e)) (λ j. inr (in_map f xs x j)) i

pub of_map : {X Y : Type 0} (f : X → Y) (xs : List X) (y : Y) → In y (map f xs) → (x : X) × In x xs × (f x ≡ y)
of_map f [] y i = absurd i
of_map f (x ∷ xs) y i = ⊎_elim (λ e. (x, inl refl, e)) (λ j. let r = of_map f xs y j in (r.0, inr r.1, r.2)) i

pub at_place : (us : List ℕ) (u : ℕ) → In u us → (i : ℕ) × (i < length us) × (get_or us i 0 ≡ u)
at_place [] u j = absurd j
at_place (v ∷ us) u j = ⊎_elim (λ e. (0, omega arith, e)) (λ k. let r = at_place us u k in let l : r.0 < length us = r.1 in (suc r.0, omega arith, r.2)) j

pub same_default : (xs : List ℕ) (k d e : ℕ) → k < length xs → get_or xs k d ≡ get_or xs k e
same_default [] k d e h = absurd (omega arith)
same_default (x ∷ xs) zero d e h = refl
same_default (x ∷ xs) (suc k) d e h = same_default xs k d e (omega arith)

pub filter_all_in : {X : Type 0} (p : X → Bool) (xs : List X) → ((x : X) → In x xs → p x ≡ true) → filter p xs ≡ xs
filter_all_in p [] all = refl
filter_all_in p (x ∷ xs) all = ap (λ b. cond b (x ∷ filter p xs) (filter p xs)) (all x (inl refl)) ∙ ap (λ l. x ∷ l) (filter_all_in p xs (λ y i. all y (inr i)))

pub given_in : {X Y : Type 0} (f : X → Option Y) (xs : List X) (y : Y) → In y (filter_map f xs) → (x : X) × In x xs × (f x ≡ Some y)
given_in f [] y = λ i. absurd i
given_in {X} {Y} f (x ∷ xs) y = at (f x) refl (given_in f xs y)
  where
    at : (o : Option Y) → f x ≡ o → (In y (filter_map f xs) → (z : X) × In z xs × (f z ≡ Some y)) → In y (cons_option o (filter_map f xs)) → (z : X) × In z (x ∷ xs) × (f z ≡ Some y)
    at None is rest i = let r = rest i in (r.0, inr r.1, r.2)
    at (Some w) is rest i = ⊎_elim (λ e. (x, inl refl, is ∙ ap Some e)) (λ j. let r = rest j in (r.0, inr r.1, r.2)) i

pub in_given : {X Y : Type 0} (f : X → Option Y) (xs : List X) (x : X) (y : Y) → In x xs → f x ≡ Some y → In y (filter_map f xs)
in_given f [] x y i is = absurd i
in_given {X} {Y} f (z ∷ xs) x y i is = ⊎_elim
    (λ e. subst (λ o. In y (cons_option o (filter_map f xs))) (sym (ap f e ∙ is)) (inl refl))
    (λ j. at (f z) (in_given f xs x y j is))
    i
  where
    at : (o : Option Y) → In y (filter_map f xs) → In y (cons_option o (filter_map f xs))
    at None j = j
    at (Some w) j = inr j

pub in_at : {X : Type 0} (xs : List X) (i : ℕ) (x : X) → slice_get xs i ≡ Some x → In x xs
in_at [] i x is = absurd (cc)
in_at (y ∷ xs) zero x is = inl (same_Some y x is)
in_at (y ∷ xs) (suc i) x is = inr (in_at xs i x is)

pub at_in : {X : Type 0} (xs : List X) (x : X) → In x xs → (i : ℕ) × (slice_get xs i ≡ Some x)
at_in [] x j = absurd j
at_in (y ∷ xs) x j = ⊎_elim (λ e. (0, ap Some e)) (λ k. let r = at_in xs x k in (suc r.0, r.1)) j

-- two tests that imply each other are equal
pub same_truth : (a b : Bool) → (a ≡ true → b ≡ true) → (b ≡ true → a ≡ true) → a ≡ b
same_truth true b f g = sym (f refl)
same_truth false true f g = g refl
same_truth false false f g = refl

-- the two elements of a test that some pair passes, in a list whose pairs are such
pub pair_parts : {X : Type 0} (R : X → X → Type 0) (r : X → X → Bool) (xs : List X) → Pairs R xs → any_ordered_pair r xs ≡ true → (a b : X) × In a xs × In b xs × (r a b ≡ true) × R a b
pair_parts R r [] p h = absurd (true≢false (sym h))
pair_parts R r (x ∷ xs) p h = ⊎_elim
    (λ e. let w = In-any (r x) xs e in (x, w.0, inl refl, inr w.1, w.2, each_at (R x) xs w.0 p.0 w.1))
    (λ e. let w = pair_parts R r xs p.1 e in (w.0, w.1, inr w.2, inr w.3, w.4, w.5))
    (or_cases (list_any (r x) xs) (any_ordered_pair r xs) h)

pub any_two : {X : Type 0} (xs : List X) → Pairs (λ a b. ⊤) xs
any_two [] = tt
any_two {X} (x ∷ xs) = (each xs, any_two xs)
  where
    each : (ys : List X) → AllByRecursion (λ b. ⊤) ys
    each [] = tt
    each (y ∷ ys) = (tt, each ys)

-- a part of a vector after a write through a slice of all of it
pub written_back : {X : Type 0} (xs ys : List X) (n : ℕ) → n ≡ length ys → length xs ≡ length ys → take n (xs ++ drop (length xs) ys) ≡ xs
written_back xs ys n is len =
    ap (λ l. take n (xs ++ l)) (drop_all (length xs) ys (omega arith)) ∙ (ap (take n) (append-nil xs) ∙ take_all n xs (omega arith))

pub filter_shorter : {X : Type 0} (p : X → Bool) (xs : List X) → length (filter p xs) ≤ length xs
filter_shorter p [] = omega arith
filter_shorter p (x ∷ xs) = let rest = filter_shorter p xs in cond_both (p x) (x ∷ filter p xs) (filter p xs) (λ l. length l ≤ suc (length xs)) (λ _. omega (arith, rest)) (λ _. omega (arith, rest))

-- a list of which the first n are changed
abbrev pub changed : {X : Type 0} → (X → X) → List X → ℕ → List X
changed f [] n = []
changed f (x ∷ xs) zero = x ∷ xs
changed f (x ∷ xs) (suc n) = f x ∷ changed f xs n

pub changed_none : {X : Type 0} (f : X → X) (xs : List X) → changed f xs 0 ≡ xs
changed_none f [] = refl
changed_none f (x ∷ xs) = refl

pub changed_all : {X : Type 0} (f : X → X) (xs : List X) (n : ℕ) → length xs ≤ n → changed f xs n ≡ map f xs
changed_all f [] n l = refl
changed_all f (x ∷ xs) zero l = absurd (omega arith)
changed_all f (x ∷ xs) (suc n) l = ap (λ ys. f x ∷ ys) (changed_all f xs n (omega arith))

pub changed_more : {X : Type 0} (f : X → X) (xs : List X) (n : ℕ) (d : X) → n < length xs → changed f xs (suc n) ≡ slice_set (changed f xs n) n (f (get_or (changed f xs n) n d))
changed_more f [] n d l = absurd (omega arith)
changed_more f (x ∷ xs) zero d l = ap (λ ys. f x ∷ ys) (changed_none f xs)
changed_more f (x ∷ xs) (suc n) d l = ap (λ ys. f x ∷ ys) (changed_more f xs n d (omega arith))

pub changed_length : {X : Type 0} (f : X → X) (xs : List X) (n : ℕ) → length (changed f xs n) ≡ length xs
changed_length f [] n = refl
changed_length f (x ∷ xs) zero = refl
changed_length f (x ∷ xs) (suc n) = ap suc (changed_length f xs n)
