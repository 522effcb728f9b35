-- A line that begins with `write `, and the same line with `wrote `; and the names in a read.
use Rattle.std.proofs.Common.{◌≡◌, ℕ, ◌+◌, ◌-◌, ◌<◌, ◌≤◌, List, [], ◌∷◌, ◌++◌, length, take, drop, set, codes, decimal, length-append, refl, sym, subst, ap, ◌∙◌, arith}
use Rattle.std.specs.List.{join_with_byte}
use Rattle.std.proofs.Math.Seq.{take-append_seam}
use Rattle.std.proofs.lemmas.List.{set-append_right, take_rest}
use Rattle.esr_grammar.specs.Command.{IsSyntaxOf, read, begin_update}

-- the byte at a place of a line that was appended
pub echoed : (out line : List ℕ) (at byte : ℕ) → set (out ++ line) (length out + at) byte ≡ out ++ set line at byte
echoed out line at byte =
    let place : length out + at - length out ≡ at = omega arith in
    set-append_right out line (length out) (length out + at) byte refl (omega arith) ∙ ap (λ k. out ++ set line k byte) place

pub wrote : (line words : List ℕ) → line ≡ codes "write " ++ words → set line 2 111 ≡ codes "wrote " ++ words
wrote line words e = ap (λ l. set l 2 111) e

pub begun : (words name : List ℕ) → words ≡ codes "begin " ++ name → set words 3 117 ≡ codes "begun " ++ name
begun words name e = ap (λ l. set l 3 117) e

pub is_begin_long : (words name : List ℕ) → words ≡ codes "begin " ++ name → 3 < length words
is_begin_long words name e = subst (λ l. 3 < length l) (sym e) (omega arith)

pub is_long : (line words : List ℕ) → line ≡ codes "write " ++ words → 2 < length line
is_long line words e = subst (λ l. 2 < length l) (sym e) (omega arith)

pub is_read_long : (line txn item : List ℕ) → IsSyntaxOf line (read txn item) → 5 ≤ length line
is_read_long line txn item h = subst (λ l. 5 ≤ length l) (sym h.1) (omega arith)

pub is_begin_update_long : (line name : List ℕ) (limit : ℕ) → IsSyntaxOf line (begin_update name limit) → 6 + length name ≤ length line
is_begin_update_long line name limit h =
    let rest : List ℕ = 32 ∷ (codes "update" ++ 32 ∷ decimal limit) in
    let size : length line ≡ 6 + length (name ++ rest) = ap length h.1 ∙ length-append (codes "begin ") (name ++ rest) in
    omega (arith, size, length-append name rest)

pub begin_words : (line name : List ℕ) (limit : ℕ) → IsSyntaxOf line (begin_update name limit) → take (6 + length name) line ≡ codes "begin " ++ name
begin_words line name limit h =
    let front : List ℕ = codes "begin " ++ name in
    let rest : List ℕ = 32 ∷ (codes "update" ++ 32 ∷ decimal limit) in
    let size : 6 + length name ≡ length front = sym (length-append (codes "begin ") name) in
    ap (take (6 + length name)) h.1 ∙ ap (λ k. take k (front ++ rest)) size ∙ take-append_seam front rest

pub read_words : (line txn item : List ℕ) → IsSyntaxOf line (read txn item) → take (length line - 5) (drop 5 line) ≡ join_with_byte 32 (txn ∷ item ∷ [])
read_words line txn item h = take_rest line 5 ∙ ap (drop 5) h.1
