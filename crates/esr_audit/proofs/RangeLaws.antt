-- Stretches of consecutive numbers, one after another.
use Rattle.std.proofs.Common.{◌≡◌, ℕ, zero, suc, ◌+◌, ◌-◌, ◌≤◌, List, [], ◌∷◌, ◌++◌, map, sym, ap, ◌∙◌, append_assoc, append-nil, arith, flat_map}
use Rattle.std.specs.List.{range_with_len}
use Rattle.std.proofs.lemmas.Grind.{flat_map-append}
use Rattle.std.proofs.lemmas.List.{map-append}
use Rattle.esr_base.specs.declared.numbers.TxnId.{TxnId}
use Rattle.esr_audit.specs.declared.ranges.TxnRange.{TxnRange}
use Rattle.esr_audit.specs.Ranges.{numbers_in}

-- one number more
pub range_more : (a n : ℕ) → range_with_len a (suc n) ≡ range_with_len a n ++ (a + n) ∷ []
range_more a zero = ap (λ k. k ∷ []) (omega arith)
range_more a (suc n) = ap (λ l. a ∷ l) (range_more (a + 1) n ∙ ap (λ k. range_with_len (a + 1) n ++ k ∷ []) (omega arith))

pub longer : (first end : ℕ) → first ≤ end → range_with_len first (end + 1 - first) ≡ range_with_len first (end - first) ++ end ∷ []
longer first end le =
    let n : ℕ = end - first in
    let count : end + 1 - first ≡ suc n = omega (arith, le) in
    let last : first + n ≡ end = omega (arith, le) in
    ap (range_with_len first) count ∙ range_more first n ∙ ap (λ k. range_with_len first n ++ k ∷ []) last

-- the numbers of one more range
pub one_more : (ss : List TxnRange) (s : TxnRange) → flat_map numbers_in (ss ++ s ∷ []) ≡ flat_map numbers_in ss ++ numbers_in s
one_more ss s = flat_map-append numbers_in ss (s ∷ []) ∙ ap (λ l. flat_map numbers_in ss ++ l) (append-nil (numbers_in s))

-- the last interval is extended
pub continues : (ss : List TxnRange) (s : TxnRange) (n end : ℕ) → s.first ≤ s.end → s.end ≡ n → end ≡ n + 1
    → flat_map numbers_in ss ++ range_with_len s.first (end - s.first) ≡ flat_map numbers_in ss ++ numbers_in s ++ n ∷ []
continues ss s n end le is next =
    ap (λ k. flat_map numbers_in ss ++ range_with_len s.first (k - s.first)) (next ∙ ap (λ k. k + 1) (sym is))
    ∙ ap (λ l. flat_map numbers_in ss ++ l) (longer s.first s.end le)
    ∙ sym (append_assoc (flat_map numbers_in ss) (numbers_in s) (s.end ∷ []))
    ∙ ap (λ k. flat_map numbers_in ss ++ numbers_in s ++ k ∷ []) is

-- a range begins
pub begins : (ss all : List TxnRange) (s : TxnRange) (n end : ℕ) → all ≡ ss ++ s ∷ [] → end ≡ n + 1
    → flat_map numbers_in all ++ range_with_len n (end - n) ≡ flat_map numbers_in ss ++ numbers_in s ++ n ∷ []
begins ss all s n end is next =
    let one : end - n ≡ 1 = omega (arith, next) in
    ap (λ l. flat_map numbers_in l ++ range_with_len n (end - n)) is
    ∙ ap (λ l. l ++ range_with_len n (end - n)) (one_more ss s)
    ∙ ap (λ k. flat_map numbers_in ss ++ numbers_in s ++ range_with_len n k) one

-- one more number of a range
pub number_more : (ts all : List TxnId) (old : List ℕ) (first n m : ℕ) → map (λ (t : TxnId). t.0) ts ≡ old ++ range_with_len first (n - first) → all ≡ ts ++ record { 0 = n } ∷ [] → first ≤ n → m ≡ n + 1
    → map (λ (t : TxnId). t.0) all ≡ old ++ range_with_len first (m - first)
number_more ts all old first n m so_far is le next =
    ap (map (λ (t : TxnId). t.0)) is ∙ map-append (λ (t : TxnId). t.0) ts (record { 0 = n } ∷ [])
    ∙ ap (λ l. l ++ n ∷ []) so_far ∙ append_assoc old (range_with_len first (n - first)) (n ∷ [])
    ∙ ap (λ l. old ++ l) (sym (longer first n le)) ∙ ap (λ k. old ++ range_with_len first (k - first)) (sym next)
