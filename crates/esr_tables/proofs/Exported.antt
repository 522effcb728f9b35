-- If nothing was imported, nothing was exported.
use Rattle.std.proofs.Common.{◌≡◌, ℕ, zero, suc, ◌+◌, List, [], ◌∷◌, ◌==◌, if◌then◌else◌, Bool, true, false, refl, sym, ◌∙◌, ap, ap₂, arith, map, replicate, sum_by}
use Rattle.std.specs.List.{range_with_len}
use Rattle.std.proofs.lemmas.List.Sums.{sum_by-append, sum_by-cons}
use Rattle.esr_items.specs.Weights.{weighted}
use Rattle.esr_history.specs.Machine.{Charge, Schedule, charges_in, export_in, total}
use Rattle.esr_history.specs.Totals.{all_imports}
use Rattle.esr_history.proofs.Charges.{range-push}
use Rattle.esr_history.proofs.Sums.{imports_total}

-- if the sum of charges is zero, each charge is zero
none_of : (cs : List Charge) (u : ℕ) → total cs ≡ 0 → export_in cs u ≡ 0
none_of [] u none = refl
none_of (c ∷ cs) u none =
    let all : total (c ∷ cs) ≡ c.amount + total cs = sum_by-cons (λ (b : Charge). b.amount) c cs in
    let one : c.amount ≡ 0 = omega (arith, all, none) in
    let rest : export_in cs u ≡ 0 = none_of cs u (omega (arith, all, none)) in
    sum_by-cons (λ (b : Charge). if b.update == u then b.amount else 0) c cs ∙ ap₂ (λ (a b : ℕ). a + b) (at (c.update == u) c.amount one) rest
  where
    at : (b : Bool) (x : ℕ) → x ≡ 0 → (if b then x else 0) ≡ 0
    at true x is = is
    at false x is = refl

-- a function that is 0 everywhere
zeros : (f : ℕ → ℕ) → ((t : ℕ) → f t ≡ 0) → (a n : ℕ) → replicate n 0 ≡ map f (range_with_len a n)
zeros f none a zero = refl
zeros f none a (suc n) = ap₂ (λ (x : ℕ) (xs : List ℕ). x ∷ xs) (sym (none a)) (zeros f none (a + 1) n)

pub none_exported : (h : Schedule) (n : ℕ) → all_imports weighted h ≡ 0 → replicate n 0 ≡ map (export_in (charges_in weighted h)) (range_with_len 0 n)
none_exported h n none = zeros (export_in (charges_in weighted h)) (λ t. none_of (charges_in weighted h) t (sym (imports_total weighted h) ∙ none)) 0 n

-- one more transaction that imported nothing
pub none_more : (f : ℕ → ℕ) (n x : ℕ) → sum_by f (range_with_len 1 n) ≡ 0 → x ≡ f (n + 1) → x ≡ 0 → sum_by f (range_with_len 1 (n + 1)) ≡ 0
none_more f n x before is none =
    let own : n + 1 ≡ 1 + n = omega arith in
    let one : f (1 + n) ≡ 0 = ap f (sym own) ∙ (sym is ∙ none) in
    ap (sum_by f) (range-push 1 n)
    ∙ (sum_by-append f (range_with_len 1 n) ((1 + n) ∷ []) ∙ omega (arith, before, one, sum_by-cons f (1 + n) []))
