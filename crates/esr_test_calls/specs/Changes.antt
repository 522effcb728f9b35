-- A metric that counts changes: the distance of different values is 1.
use Rattle.std.proofs.Common.{arith, ◌≡◌, ℕ, ℤ, zero, suc, ◌≤◌, ◌+◌, refl, ap}
use Rattle.esr_items.specs.Values.{gap, IsValue, max_distance}
use Rattle.esr_items.specs.Gaps.{gap-zero, gap-same, gap_comm, gap-triangle}

abbrev pub capped : ℕ → ℕ
capped zero = 0
capped (suc n) = 1

abbrev pub changes : ℤ → ℤ → ℕ
changes a b = capped (gap a b)

capped-zero : (n : ℕ) → capped n ≡ 0 → n ≡ 0
capped-zero zero is = refl
capped-zero (suc n) is = absurd (omega (arith, is))

capped-triangle : (x y z : ℕ) → x ≤ y + z → capped x ≤ capped y + capped z
capped-triangle zero y z l = omega arith
capped-triangle (suc x) (suc y) z l = omega arith
capped-triangle (suc x) zero (suc z) l = omega arith
capped-triangle (suc x) zero zero l = absurd (omega (arith, l))

pub changes-zero : (a b : ℤ) → changes a b ≡ 0 → a ≡ b
changes-zero a b none = gap-zero a b (capped-zero (gap a b) none)

pub changes-same : (a : ℤ) → changes a a ≡ 0
changes-same a = ap capped (gap-same a)

pub changes_comm : (a b : ℤ) → changes a b ≡ changes b a
changes_comm a b = ap capped (gap_comm a b)

pub changes-triangle : (a b c : ℤ) → changes a c ≤ changes a b + changes b c
changes-triangle a b c = capped-triangle (gap a c) (gap a b) (gap b c) (gap-triangle a b c)

capped-bounded : (n : ℕ) → capped n ≤ max_distance
capped-bounded zero = omega arith
capped-bounded (suc n) = omega arith

pub changes-bounded : (a b : ℤ) → IsValue a → IsValue b → changes a b ≤ max_distance
changes-bounded a b ha hb = capped-bounded (gap a b)
