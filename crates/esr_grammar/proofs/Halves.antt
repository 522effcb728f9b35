-- The mask of few bytes, from the first and the last eight, and the mask of the bytes after the first five.
use Rattle.std.proofs.Common.{◌≡◌, ℕ, ◌+◌, ◌-◌, ◌*◌, ◌/◌, ◌%◌, ◌^◌, ◌<◌, ◌≤◌, Bool, List, [], ◌∷◌, ◌++◌, cond, take, drop, map, length, length-drop, sym, ap, ap₂, subst, ◌∙◌, arith}
use Rattle.std.proofs.Math.Nat.{pow-succ'}
use Rattle.std.proofs.lemmas.List.{length-map, length-take-le, take-append-drop}
use Rattle.std.proofs.lemmas.Simd.{mask_l-lt}
use lib.Lanes.{chunk, mask_l}
use Rattle.esr_grammar.proofs.Lasts.{past, last_mask}

spread : (b m n k : ℕ) → b + 2 * (m + k * n) ≡ b + 2 * m + 2 * k * n
spread b m n k = grind arith

joined : (p : ℕ → Bool) (front rest : List ℕ) → mask_l (map p (front ++ rest)) ≡ mask_l (map p front) + 2 ^ length front * mask_l (map p rest)
joined p [] rest = omega arith
joined p (x ∷ xs) rest =
    let power : 2 ^ length (x ∷ xs) ≡ 2 * 2 ^ length xs = pow-succ' 2 (length xs) in
    rw (power, joined p xs rest) (spread (cond (p x) 1 0) (mask_l (map p xs)) (mask_l (map p rest)) (2 ^ length xs))

-- the two parts of the mask of eight bytes and others
halves : (p : ℕ → Bool) (first last : List ℕ) (mask : ℕ) → length first ≡ 8 → mask ≡ mask_l (map p (first ++ last))
    → (mask % 256 ≡ mask_l (map p first)) × (mask / 256 ≡ mask_l (map p last))
halves p first last mask long is =
    let sum : mask ≡ mask_l (map p first) + 256 * mask_l (map p last) = is ∙ joined p first last ∙ ap (λ n. mask_l (map p first) + 2 ^ n * mask_l (map p last)) long in
    let low : mask_l (map p first) < 256 = subst (λ n. mask_l (map p first) < 2 ^ n) (length-map first p ∙ long) (mask_l-lt (map p first)) in
    (omega (arith, sum, low), omega (arith, sum, low))

-- the mask of the last bytes, without those among the first eight
past_eight : (p : ℕ → Bool) (bytes : List ℕ) (mask : ℕ) → 8 ≤ length bytes → length bytes ≤ 16 → mask ≡ mask_l (map p (chunk (length bytes - 8) 8 bytes))
    → mask / 2 ^ (16 - length bytes) ≡ mask_l (map p (drop 8 bytes))
past_eight p bytes mask long short is =
    let few : length (drop 8 bytes) ≤ 8 = omega (arith, length-drop 8 bytes, short) in
    let shift : 16 - length bytes ≡ 8 - length (drop 8 bytes) = omega (arith, length-drop 8 bytes, long, short) in
    ap (λ n. mask / 2 ^ n) shift ∙ last_mask p 8 bytes (take 8 bytes) (drop 8 bytes) mask (sym (take-append-drop 8 bytes)) long few is

-- the mask of 8 to 16 bytes
pub both_halves : (p : ℕ → Bool) (bytes : List ℕ) (mask : ℕ) → 8 ≤ length bytes → length bytes ≤ 16 → mask ≡ mask_l (map p (chunk 0 8 bytes ++ chunk (length bytes - 8) 8 bytes))
    → mask % 256 + 256 * (mask / 256 / 2 ^ (16 - length bytes)) ≡ mask_l (map p bytes)
both_halves p bytes mask long short is =
    let eight : length (take 8 bytes) ≡ 8 = length-take-le 8 bytes long in
    let parts = halves p (take 8 bytes) (chunk (length bytes - 8) 8 bytes) mask eight is in
    let sum : mask_l (map p bytes) ≡ mask_l (map p (take 8 bytes)) + 256 * mask_l (map p (drop 8 bytes)) =
    ap (λ l. mask_l (map p l)) (sym (take-append-drop 8 bytes)) ∙ joined p (take 8 bytes) (drop 8 bytes) ∙ ap (λ n. mask_l (map p (take 8 bytes)) + 2 ^ n * mask_l (map p (drop 8 bytes))) eight in
    ap₂ (λ m n. m + 256 * n) parts.0 (past_eight p bytes (mask / 256) long short parts.1) ∙ sym sum

-- the mask of all but the first five bytes
pub after_five : (p : ℕ → Bool) (line : List ℕ) (mask : ℕ) → 5 ≤ length line → mask ≡ mask_l (map p line) → mask / 2 ^ 5 ≡ mask_l (map p (drop 5 line))
after_five p line mask long is =
    let five : length (take 5 line) ≡ 5 = length-take-le 5 line long in
    ap (λ m. m / 2 ^ 5) (is ∙ ap (λ l. mask_l (map p l)) (sym (take-append-drop 5 line)))
    ∙ ap (λ n. mask_l (map p (take 5 line ++ drop 5 line)) / 2 ^ n) (sym five)
    ∙ past p (take 5 line) (drop 5 line)

-- the mask of all but the first five bytes of a line of 16 to 21 bytes, from its last 16
pub last_after_five : (p : ℕ → Bool) (line : List ℕ) (mask : ℕ) → 16 ≤ length line → length line ≤ 21 → mask ≡ mask_l (map p (chunk (length line - 16) 16 line))
    → mask / 2 ^ (21 - length line) ≡ mask_l (map p (drop 5 line))
last_after_five p line mask long short is =
    let few : length (drop 5 line) ≤ 16 = omega (arith, length-drop 5 line, short) in
    let shift : 21 - length line ≡ 16 - length (drop 5 line) = omega (arith, length-drop 5 line, long, short) in
    ap (λ n. mask / 2 ^ n) shift ∙ last_mask p 16 line (take 5 line) (drop 5 line) mask (sym (take-append-drop 5 line)) long few is
