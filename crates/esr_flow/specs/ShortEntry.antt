-- Entries as numbers: four times the node, plus 2 if the opposite has residual capacity, plus 1 if the step has.
use Rattle.std.proofs.Common.{ap, ◌∙◌, inl, inr, arith, cond, eq-eqb, ne_eqb, ◌≡◌, ℕ, ◌+◌, ◌*◌, ◌/◌, ◌%◌, ◌==◌, nat_lt, if◌then◌else◌}
use Rattle.std.proofs.lemmas.Bool.{cases_eq, cases_lt, lt-ltb, le-ltb}
pub use Rattle.esr_flow.specs.declared.entry.AdjacencyEntry.{AdjacencyEntry}

abbrev pub entry_in : ℕ → AdjacencyEntry
entry_in n = record { to = n / 4; has_residual = n % 2 == 1; opposite_has_residual = nat_lt 1 (n % 4) }

abbrev pub packed_entry : AdjacencyEntry → ℕ
packed_entry e = e.to * 4 + (if e.opposite_has_residual then 2 else 0) + (if e.has_residual then 1 else 0)

pub packed_entry-entry_in : (n : ℕ) → packed_entry (entry_in n) ≡ n
packed_entry-entry_in n =
    elim (cases_eq (n % 2) 1) [
      | inl odd ↦ ap (λ a. n / 4 * 4 + cond (nat_lt 1 (n % 4)) 2 0 + cond a 1 0) (eq-eqb (n % 2) 1 odd) ∙ elim (cases_lt 1 (n % 4)) [
        | inl l ↦ let all : n / 4 * 4 + 2 + 1 ≡ n = omega arith in ap (λ b. n / 4 * 4 + cond b 2 0 + 1) (lt-ltb 1 (n % 4) l) ∙ all
        | inr m ↦ let all : n / 4 * 4 + 0 + 1 ≡ n = omega arith in ap (λ b. n / 4 * 4 + cond b 2 0 + 1) (le-ltb 1 (n % 4) m) ∙ all
      ]
      | inr even ↦ ap (λ a. n / 4 * 4 + cond (nat_lt 1 (n % 4)) 2 0 + cond a 1 0) (ne_eqb (n % 2) 1 even) ∙ elim (cases_lt 1 (n % 4)) [
        | inl l ↦ let all : n / 4 * 4 + 2 + 0 ≡ n = omega arith in ap (λ b. n / 4 * 4 + cond b 2 0 + 0) (lt-ltb 1 (n % 4) l) ∙ all
        | inr m ↦ let all : n / 4 * 4 + 0 + 0 ≡ n = omega arith in ap (λ b. n / 4 * 4 + cond b 2 0 + 0) (le-ltb 1 (n % 4) m) ∙ all
      ]
    ]
