-- The first line feed, as a search by many bytes at once finds it.
use Rattle.std.proofs.Common.{◌≡◌, refl, ℕ, List, Bool, true, false, length, sym, arith, Some, None, Option, nat_eq, lt-ltb, le-ltb}
use Rattle.std.specs.List.{position}
use Rattle.std.proofs.lemmas.List.Sums.{position_or_len_is}
use Rattle.memchr.specs.Find.{IsFirstByte, is_byte}

untrue : (v : Bool) → (v ≡ true → ⊥) → v ≡ false
untrue true h = absurd (h refl)
untrue false h = refl

pub first_feed : (bytes : List ℕ) (found : Option ℕ) → IsFirstByte (is_byte 10) bytes found → found ≡ position (λ b. nat_eq b 10) bytes
first_feed bytes None h =
    let none = position_or_len_is (λ b. nat_eq b 10) bytes (length bytes) 0 (omega arith) (λ k l. untrue _ (h k (omega arith) l)) (λ l. absurd (omega (arith, l))) in
    sym (rw (none, le-ltb (length bytes) (length bytes) (omega arith)) refl)
first_feed bytes (Some k) h =
    let at = position_or_len_is (λ b. nat_eq b 10) bytes k 0 (omega (arith, h.0.high)) (λ i l. untrue _ (h.0.before i (omega arith) l)) (λ l. h.1) in
    sym (rw (at, lt-ltb k (length bytes) h.0.high) refl)
