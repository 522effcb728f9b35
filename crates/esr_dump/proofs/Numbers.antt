-- Names by numbers are distinct.
use Rattle.std.proofs.Common.{◌≡◌, ◌≢◌, ℕ, ◌+◌, ◌<◌, ◌^◌, List, [], false, cond, Some, None, inl, inr, refl, ◌∙◌, ap, arith, length, decimal, bytes_eq, le-ltb}
use Rattle.std.specs.List.{position_or_len}
use Rattle.std.proofs.lemmas.Bool.{cases_Bool}
use Rattle.std.proofs.lemmas.Fmt.{decimal_injective}
use Rattle.std.proofs.lemmas.List.{append_cancel_left}
use Rattle.std.proofs.lemmas.List.FromFn.{length-map-range_with_len, get_or-map-range_with_len}
use Rattle.std.proofs.lemmas.List.Sums.{position_or_len_is}
use Rattle.std.proofs.lemmas.Slice.Eq.{bytes_eq-Decides}
use Rattle.esr_report.specs.Names.{position_of}
use Rattle.esr_dump.specs.Naming.{numbered, all_numbered}

-- other numbers have other names
pub differs : (word : List ℕ) (m n : ℕ) → m < 2 ^ 32 → n < 2 ^ 32 → m ≢ n → bytes_eq (numbered word m) (numbered word n) ≡ false
differs word m n lm ln other = elim (cases_Bool (bytes_eq (numbered word m) (numbered word n))) [
  | inl same ↦
      let digits : decimal m ≡ decimal n = append_cancel_left word (decimal m) (decimal n) ((bytes_eq-Decides (numbered word m) (numbered word n)).0 same) in
      absurd (other (decimal_injective m n (omega arith) (omega arith) digits))
  | inr apart ↦ apart
]

-- the next number's name differs from those before
pub unbound : (word : List ℕ) (first count : ℕ) → first + count < 2 ^ 32 → position_of (all_numbered word first count) (numbered word (first + count)) ≡ None
unbound word first count fits =
    let names = all_numbered word first count in
    let name = numbered word (first + count) in
    let long : length names ≡ count = length-map-range_with_len (numbered word) first count in
    let none : position_or_len (bytes_eq name) names ≡ length names =
    position_or_len_is (bytes_eq name) names (length names) [] (omega arith)
    (λ (k : ℕ) (l : k < length names).
    ap (bytes_eq name) (get_or-map-range_with_len (numbered word) first count k (first + k) [] (omega arith) refl)
    ∙ differs word (first + count) (first + k) fits (omega arith) (omega arith))
    (λ l. absurd (omega arith)) in
    ap (λ v. cond v (Some (position_or_len (bytes_eq name) names)) None) (le-ltb (position_or_len (bytes_eq name) names) (length names) (omega arith))
