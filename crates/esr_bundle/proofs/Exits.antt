-- Facts at a call whose error is propagated, and about a list one element of which fails a test.
use Rattle.std.proofs.Common.{◌≡◌, ℕ, ◌+◌, ◌<◌, List, [], ◌∷◌, ◌++◌, Bool, true, false, Result, Ok, Err, IfErr, map, take, length, get_or, refl, sym, ap, ◌∙◌, subst, true≢false, IsErrAnd}
use Rattle.std.specs.List.{list_all}
use Rattle.std.proofs.lemmas.Bool.{false_from_ne_true, and_from, and_parts}
use Rattle.std.proofs.lemmas.List.{length-map, take-map, map_more}
use Rattle.std.proofs.lemmas.Simd.{map-map}
use Rattle.serde_json.specs.Data.{Data, array}
use Rattle.serde_json.specs.View.{items_of}
use Rattle.esr_cert.proofs.Steps.{get_or_map_read}
use Rattle.esr_cert.proofs.Distinct.{all_at}

pub passes : {T E : Type 0} (P : E → Type 0) (r : Result T E) (x : E) → IsErrAnd r (λ e. e ≡ x) → P x → IfErr r P
passes P (Ok t) x h p = tt
passes P (Err e) x h p = subst P (sym h) p

-- the result of `?`: the error itself, since it converts to itself
pub handed_on : {T E : Type 0} (r : Result T E) (e : E) → IsErrAnd r (λ f. f ≡ e) → r ≡ Err e
handed_on (Ok value) e h = absurd h
handed_on (Err f) e h = ap (λ x. Err x) h

pub no_at : {X Y : Type 0} (p : Y → Bool) (f : X → Y) (xs : List X) (i : ℕ) (x : X) → i < length xs → x ≡ get_or xs i x → p (f x) ≡ false → list_all p (map f xs) ≡ false
no_at p f xs i x l e n =
    false_from_ne_true (list_all p (map f xs)) (λ h. true≢false (sym (all_at p (map f xs) h i (f x) (rw length-map l)) ∙ ap p (get_or_map_read f xs i x l e) ∙ n))

pub take_map_more : {X Y : Type 0} (f : X → Y) (xs : List X) (i : ℕ) (x : X) → i < length xs → x ≡ get_or xs i x → take (i + 1) (map f xs) ≡ take i (map f xs) ++ f x ∷ []
take_map_more f xs i x l e =
    take-map f (i + 1) xs ∙ map_more f xs i x l ∙ ap (λ y. map f (take i xs) ++ f y ∷ []) (sym e) ∙ ap (λ ys. ys ++ f x ∷ []) (sym (take-map f i xs))

pub all_push : {Y : Type 0} (p : Y → Bool) (ys : List Y) (y : Y) → list_all p ys ≡ true → p y ≡ true → list_all p (ys ++ y ∷ []) ≡ true
all_push p [] y all is = and_from (p y) true is refl
all_push p (z ∷ ys) y all is = let both = and_parts (p z) (list_all p ys) all in and_from (p z) (list_all p (ys ++ y ∷ [])) both.0 (all_push p ys y both.1 is)

-- a list whose elements are written as their meanings
pub list_written : {X Y : Type 0} (f : X → Y) (g : Y → Data) (v : Data) (xs : List X) (ys : List Y) → v ≡ array (items_of (map (λ x. g (f x)) xs)) → map f xs ≡ ys → v ≡ array (items_of (map g ys))
list_written f g v xs ys h e = h ∙ ap (λ ds. array (items_of ds)) (sym (map-map g f xs) ∙ ap (map g) e)
