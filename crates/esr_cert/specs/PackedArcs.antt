-- Steps as numbers: below 2^31 the arc of a step along it, and from there on that of a step against it.
use Rattle.std.proofs.Common.{ap, ◌∙◌, inl, inr, arith, cond, ◌≡◌, ℕ, ◌+◌, ◌-◌, nat_lt, if◌then◌else◌}
use Rattle.std.proofs.lemmas.Bool.{cases_lt, lt-ltb, le-ltb}
use Rattle.esr_cert.specs.ResidualArcs.{ResidualArc, Forward, Backward}

abbrev pub step_of : ℕ → ResidualArc
step_of n = if nat_lt n 2147483648 then Forward n else Backward (n - 2147483648)

abbrev pub packed_arc : ResidualArc → ℕ
packed_arc (Forward i) = i
packed_arc (Backward i) = i + 2147483648

pub packed_arc-step_of : (n : ℕ) → packed_arc (step_of n) ≡ n
packed_arc-step_of n =
    elim (cases_lt n 2147483648) [
      | inl l ↦ ap (λ b. packed_arc (cond b (Forward n) (Backward (n - 2147483648)))) (lt-ltb n 2147483648 l)
      | inr m ↦ let back : n - 2147483648 + 2147483648 ≡ n = omega arith in ap (λ b. packed_arc (cond b (Forward n) (Backward (n - 2147483648)))) (le-ltb n 2147483648 m) ∙ back
    ]
