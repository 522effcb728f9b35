-- Weights of items, the distance that they define, and its laws.
use Rattle.std.proofs.Common.{◌∙◌, sym, ap, arith, ◌≡◌, ℕ, ℤ, ◌+◌, ◌*◌, ◌≤◌, Bool, ◌&&◌, cond, nat_le, List, slice_index_or}
use Rattle.std.proofs.lemmas.Bool.Decides.{nat_tests}
use Rattle.std.proofs.Math.Nat.{mul-add, mul-zero, mul-le-mul, mul-le-mul_left, eq_of_mul-eq-mul_left}
use Rattle.esr_base.specs.declared.limits.TheConstants.{MAX_WEIGHT}
use Rattle.esr_items.specs.Values.{gap, IsValue, max_distance}
use Rattle.esr_items.specs.Gaps.{gap-zero, gap-same, gap_comm, gap-triangle, gap-upper_bound}

-- a weight that an item may have
abbrev pub IsWeight : ℕ → Type 0
IsWeight w = (1 ≤ w) × (w ≤ MAX_WEIGHT)

-- the same predicate as a test
abbrev pub is_weight : ℕ → Bool
is_weight w = nat_le 1 w && nat_le w MAX_WEIGHT

-- the number itself if it is a weight, else 1
abbrev pub weight_or_one : ℕ → ℕ
weight_or_one w = cond (is_weight w) w 1

-- the weight of item x: 1 past the list
abbrev pub weight_of : List ℕ → ℕ → ℕ
weight_of weights x = weight_or_one (slice_index_or weights x 1)

-- the distance of two values of item x: their difference times the item's weight
abbrev pub weighted : List ℕ → ℕ → ℤ → ℤ → ℕ
weighted weights x a b = weight_of weights x * gap a b

-- ---- laws

pub weight-least : (w : ℕ) → 1 ≤ weight_or_one w
weight-least w = grind (arith, nat_tests)

pub weight-upper_bound : (w : ℕ) → weight_or_one w ≤ MAX_WEIGHT
weight-upper_bound w = grind (arith, nat_tests)

pub weighted-zero : (weights : List ℕ) (x : ℕ) (a b : ℤ) → weighted weights x a b ≡ 0 → a ≡ b
weighted-zero weights x a b h =
    let w = weight_of weights x in
    gap-zero a b (eq_of_mul-eq-mul_left w (weight-least (slice_index_or weights x 1)) (gap a b) 0 (h
    ∙ sym (mul-zero w)))

pub weighted-equal_values : (weights : List ℕ) (x : ℕ) (a : ℤ) → weighted weights x a a ≡ 0
weighted-equal_values weights x a = ap (λ n. weight_of weights x * n) (gap-same a) ∙ mul-zero (weight_of weights x)

pub weighted_comm : (weights : List ℕ) (x : ℕ) (a b : ℤ) → weighted weights x a b ≡ weighted weights x b a
weighted_comm weights x a b = ap (λ n. weight_of weights x * n) (gap_comm a b)

pub weighted-triangle : (weights : List ℕ) (x : ℕ) (a b c : ℤ)
    → weighted weights x a c ≤ weighted weights x a b + weighted weights x b c
weighted-triangle weights x a b c =
    let w = weight_of weights x in
    let apart : w * (gap a b + gap b c) ≡ w * gap a b + w * gap b c = mul-add w (gap a b) (gap b c) in
    let upper_bound : w * gap a c ≤ w * (gap a b + gap b c) = mul-le-mul_left w (gap-triangle a b c) in
    omega (arith, apart, upper_bound)

pub weighted-bounded : (weights : List ℕ) (x : ℕ) (a b : ℤ) → IsValue a → IsValue b
    → weighted weights x a b ≤ max_distance
weighted-bounded weights x a b ha hb = mul-le-mul (weight-upper_bound (slice_index_or weights x 1)) (gap-upper_bound a b ha hb)
