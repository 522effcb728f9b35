-- Texts placed into a buffer, one after another.
use Rattle.std.proofs.Common.{◌≡◌, ℕ, ◌+◌, ◌-◌, ◌<◌, ◌≤◌, List, ◌++◌, Bool, true, false, if◌then◌else◌, replicate, length, take, drop, set, ap, sym, ◌∙◌, arith, append_assoc, length-append, length-take-le, length-drop, take-add, take-take, take_at, drop_at, take_all, take-append-drop}
use Rattle.std.proofs.Math.Seq.{take-set-lt, take-length, take-append_seam}
use Rattle.std.proofs.lemmas.List.{length-set}
use Rattle.esr_script.specs.Placed.{Placed}
use Rattle.esr_script.proofs.Echoes.{echoed}

-- a second text begins where the first ends
pub placed_then : {a b c xs ys : List ℕ} {i j k : ℕ} → Placed a b i xs j → Placed b c j ys k → Placed a c i (xs ++ ys) k
placed_then {a} {b} {c} {xs} {ys} {i} p q = record {
  bytes = q.bytes ∙ ap (λ l. l ++ ys) p.bytes ∙ append_assoc (take i a) xs ys;
  moved = omega (arith, p.moved, q.moved, length-append xs ys);
  len = q.len ∙ p.len;
}

-- only the first n bytes of a text count
placed_less : {a b xs : List ℕ} {i j : ℕ} (n : ℕ) → i ≤ length a → n ≤ length xs → Placed a b i xs j → Placed a b i (take n xs) (i + n)
placed_less {a} {b} {xs} {i} {j} n within few p =
    let front = length-take-le i a within in
    record {
      bytes = sym (take-take (i + n) j b (omega (arith, p.moved))) ∙ ap (take (i + n)) p.bytes ∙ take-add i n (take i a ++ xs)
          ∙ (λ k. take_at (take i a) xs i front k ++ take n (drop_at (take i a) xs i front k));
      moved = omega (arith, length-take-le n xs few);
      len = p.len;
    }

-- the first and the last `half` bytes of a text, which may overlap, are the text
pub placed_ends : {a b c : List ℕ} {i j k : ℕ} (text : List ℕ) (half : ℕ) → i ≤ length a → half ≤ length text → length text ≤ half + half
    → Placed a b i (take half text) j → Placed b c (i + (length text - half)) (take half (drop (length text - half) text)) k → Placed a c i text k
placed_ends {a} {b} {c} {i} {j} {k} text half within fits covers p q =
    let last = length text - half in
    let both = placed_then (placed_less last within (omega (arith, length-take-le half text fits)) p) q in
    let whole : take last (take half text) ++ take half (drop last text) ≡ text =
    (λ x. take-take last half text (omega arith) x ++ take_all half (drop last text) (omega (arith, length-drop last text)) x) ∙ take-append-drop last text in
    record { bytes = both.bytes ∙ ap (λ l. take i a ++ l) whole; moved = both.moved ∙ ap (λ l. i + length l) whole; len = both.len }

-- another byte at a place of a text
pub placed_byte : {a b line : List ℕ} {i j : ℕ} (k byte : ℕ) → i ≤ length a → k < length line → Placed a b i line j → Placed a (set b (i + k) byte) i (set line k byte) j
placed_byte {a} {b} {line} {i} {j} k byte within long p =
    let size : length (take i a) ≡ i = length-take-le i a within in
    record {
      bytes = take-set-lt j b (i + k) byte (omega (arith, p.moved, long)) ∙ ap (λ l. set l (i + k) byte) p.bytes
          ∙ ap (λ n. set (take i a ++ line) (n + k) byte) (sym size) ∙ echoed (take i a) line k byte;
      moved = p.moved ∙ ap (λ n. i + n) (sym (length-set line k byte));
      len = length-set b (i + k) byte ∙ p.len;
    }

-- a buffer that was made longer, or stayed as it was
pub extended : (made : Bool) (old new : List ℕ) (n k : ℕ) → length old ≤ n → new ≡ (if made then take n old ++ replicate k 0 else old) → take (length old) new ≡ old
extended true old new n k longer is = ap (take (length old)) is ∙ ap (λ l. take (length old) (l ++ replicate k 0)) (take_all n old longer) ∙ take-append_seam old (replicate k 0)
extended false old new n k longer is = ap (take (length old)) is ∙ take-length old

-- a text that was placed after the first `len` bytes
pub appended : (a : List ℕ) {b c text : List ℕ} {len end : ℕ} → Placed b c len text end → take len b ≡ take len a → take end c ≡ take len a ++ text
appended a {b} {c} {text} p same = p.bytes ∙ ap (λ l. l ++ text) same

pub size : (xs : List ℕ) (n : ℕ) → n ≤ length xs → n ≡ length (take n xs)
size xs n within = sym (length-take-le n xs within)

pub whole : (xs : List ℕ) (n : ℕ) → n ≡ length xs → take n xs ≡ xs
whole xs n is = ap (λ k. take k xs) is ∙ take-length xs
