-- The first byte that passes a test, found by a mask of the first bytes, which is computed lane by lane.
use Rattle.std.proofs.Common.{◌≡◌, ℕ, ◌+◌, ◌%◌, ◌^◌, ◌<◌, ◌≤◌, Bool, true, not, List, [], ◌∷◌, map, length, get_or, replicate, Some, position, Fits, w8, refl, sym, ap, ap₂, ◌∙◌, arith, inl, inr, lt-ltb}
use Rattle.std.proofs.lemmas.Bool.{agree_below, agree_below_at, cases_Bool}
use Rattle.std.proofs.lemmas.Simd.{map-map, mask_l-mod, length-chunk, trailing_mask_l, run_in_chunk_fails, run_in_chunk_stops}
use Rattle.std.proofs.lemmas.List.{length-map}
use Rattle.std.proofs.lemmas.List.Sums.{prefix_len-le-length, position_or_len_is}
use Rattle.std.specs.List.{prefix_len}
use lib.Lanes.{chunk, zip2, mask_l, top, Each1}
use lib.Count.{count_trailing_zeros}

mapped_both : (h : ℕ → ℕ → ℕ) (f g : ℕ → ℕ) (v : List ℕ) → zip2 h (map f v) (map g v) ≡ map (λ x. h (f x) (g x)) v
mapped_both h f g [] = refl
mapped_both h f g (x ∷ xs) = ap (λ l. h (f x) (g x) ∷ l) (mapped_both h f g xs)

-- an operation on two vectors, each computed from the lanes of v
pub both : (h : ℕ → ℕ → ℕ) (f g : ℕ → ℕ) (v : List ℕ) {a b : List ℕ} → a ≡ map f v → b ≡ map g v → zip2 h a b ≡ map (λ x. h (f x) (g x)) v
both h f g v left right = ap₂ (zip2 h) left right ∙ mapped_both h f g v

-- equal lanes, as many as v has
pub splat : (y n : ℕ) (v : List ℕ) → length v ≡ n → replicate n y ≡ map (λ _. y) v
splat y n [] long = ap (λ k. replicate k y) (sym long)
splat y n (x ∷ xs) long = ap (λ k. replicate k y) (sym long) ∙ ap (λ l. y ∷ l) (splat y (length xs) xs refl)

-- the lanes themselves
pub itself : (v : List ℕ) → v ≡ map (λ x. x) v
itself [] = refl
itself (x ∷ xs) = ap (λ l. x ∷ l) (itself xs)

tops : (f : ℕ → ℕ) (p : ℕ → Bool) (v : List ℕ) → agree_below (λ x. top 7 (f x)) p 256 ≡ true → Each1 (Fits w8) v → map (λ x. top 7 (f x)) v ≡ map p v
tops f p [] same fits = refl
tops f p (x ∷ xs) same fits = ap₂ (λ b l. b ∷ l) (agree_below_at (λ y. top 7 (f y)) p 256 x same fits.0.fits) (tops f p xs same fits.1)

-- the mask of a test p that is computed lane by lane: it is compared at each of the 256 bytes
pub mask_is : (f : ℕ → ℕ) (p : ℕ → Bool) (v z : List ℕ) → length v ≤ 64 → Each1 (Fits w8) v → z ≡ map f v → agree_below (λ x. top 7 (f x)) p 256 ≡ true
    → mask_l (map (top 7) z) % 2 ^ 64 ≡ mask_l (map p v)
mask_is f p v z few fits lanes same =
    ap (λ l. mask_l (map (top 7) l) % 2 ^ 64) lanes ∙ ap (λ l. mask_l l % 2 ^ 64) (map-map (top 7) f v ∙ tops f p v same fits)
    ∙ mask_l-mod (map p v) 64 (omega (arith, length-map v p))

none_set : (p : ℕ → Bool) (xs : List ℕ) → prefix_len (λ x. not (p x)) xs ≡ length xs → mask_l (map p xs) ≡ 0
none_set p [] e = refl
none_set p (x ∷ xs) e = elim (cases_Bool (p x)) [
  | inl passes ↦ let no : 0 ≡ length (x ∷ xs) = rw passes at e in absurd (omega (arith, no))
  | inr fails ↦ let more : 1 + prefix_len (λ y. not (p y)) xs ≡ length (x ∷ xs) = rw fails at e in rw (fails, none_set p xs (omega (arith, more))) refl
]

-- the lowest bit of the mask of the first n bytes, of which one passes
counted : (p : ℕ → Bool) (n : ℕ) (bytes : List ℕ) (mask : ℕ) → n ≤ 64 → n ≤ length bytes → mask ≡ mask_l (map p (chunk 0 n bytes)) → (mask ≡ 0 → ⊥)
    → (count_trailing_zeros 64 mask ≡ prefix_len (λ x. not (p x)) (chunk 0 n bytes)) × (count_trailing_zeros 64 mask < n)
counted p n bytes mask few room is some =
    let v = chunk 0 n bytes in
    let place = count_trailing_zeros 64 mask in
    let long : length v ≡ n = length-chunk 0 n bytes (omega (arith, room)) in
    let among : place ≡ prefix_len (λ x. not (p x)) v = ap (count_trailing_zeros 64) is ∙ trailing_mask_l p 64 v (omega (arith, long)) (omega (arith, is, some)) in
    (among, omega (arith, among, long, prefix_len-le-length (λ x. not (p x)) v, λ (e : prefix_len (λ x. not (p x)) v ≡ length v). some (is ∙ none_set p v e)))

pub first_within : (p : ℕ → Bool) (n : ℕ) (bytes : List ℕ) (mask : ℕ) → n ≤ 64 → n ≤ length bytes → mask ≡ mask_l (map p (chunk 0 n bytes)) → (mask ≡ 0 → ⊥)
    → count_trailing_zeros 64 mask < n
first_within p n bytes mask few room is some = (counted p n bytes mask few room is some).1

-- the lowest bit of the mask of the first n bytes is the first byte that passes
pub first_passes : (p : ℕ → Bool) (n : ℕ) (bytes : List ℕ) (mask : ℕ) → n ≤ 64 → n ≤ length bytes → mask ≡ mask_l (map p (chunk 0 n bytes)) → (mask ≡ 0 → ⊥) → Some (count_trailing_zeros 64 mask) ≡ position p bytes
first_passes p n bytes mask few room is some =
    let place = count_trailing_zeros 64 mask in
    let within : 0 + n ≤ length bytes = omega (arith, room) in
    let among = counted p n bytes mask few room is some in
    let here : place ≡ 0 + place = omega arith in
    let at = position_or_len_is p bytes place 0 (omega arith) (λ k before. run_in_chunk_fails p bytes 0 n place 0 within among.0 k (omega arith) (omega (arith, before))) (λ inside. ap (λ k. p (get_or bytes k 0)) here ∙ run_in_chunk_stops p bytes 0 n place 0 within among.0 among.1) in
    rw (at, lt-ltb place (length bytes) (omega (arith, among.1, room))) refl
