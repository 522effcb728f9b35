-- Whether a history has an active transaction, by the count of those that are.
use Rattle.std.proofs.Common.{◌≡◌, ◌<◌, ◌≤◌, ◌+◌, ℕ, List, [], ◌∷◌, Bool, true, false, cond, ◌||◌, refl, sym, ◌∙◌, ap, arith, count_by}
use Rattle.std.specs.List.{list_any}
use Rattle.std.proofs.lemmas.Bool.{false≢true}
use Rattle.std.proofs.lemmas.List.Sums.{sum_by-cons}
use Rattle.esr_history.specs.Events.{txn_numbers, is_active}
use Rattle.esr_history.specs.Machine.{Schedule, accepted_in}
use Rattle.esr_history.proofs.TraceOfHistory.{count_none}
use Rattle.esr_core.specs.Renewed.{has_active}
use Rattle.esr_engine.specs.Capacity.{active_count}

-- a test that some element passes counts one at least
count_more : (b : Bool) (n m : ℕ) → m ≡ cond b 1 0 + n → (b ≡ false → 0 < n) → 0 < m
count_more true n m is rest = omega (arith, is)
count_more false n m is rest = let l : 0 < n = rest refl in omega (arith, is, l)

count_some : {X : Type 0} (p : X → Bool) (xs : List X) → list_any p xs ≡ true → 0 < count_by p xs
count_some p [] some = absurd (false≢true some)
count_some p (x ∷ xs) some =
    count_more (p x) (count_by p xs) (count_by p (x ∷ xs)) (sum_by-cons (λ y. cond (p y) 1 0) x xs)
    (λ is. count_some p xs (sym (ap (λ b. b || list_any p xs) is) ∙ some))

-- whether a transaction is active, by the count of those that are
pub has_some : (h : Schedule) (n : ℕ) → n ≡ active_count (accepted_in h) → 0 < n → has_active h ≡ true
has_some h n is some = at (has_active h) refl
  where
    at : (b : Bool) → has_active h ≡ b → has_active h ≡ true
    at true yes_it_has = yes_it_has
    at false none = let zero_it_is : active_count (accepted_in h) ≡ 0 = count_none (is_active (accepted_in h)) (txn_numbers (accepted_in h)) none in absurd (omega arith)

pub has_none : (h : Schedule) (n : ℕ) → n ≡ active_count (accepted_in h) → n ≤ 0 → has_active h ≡ false
has_none h n is none = at (has_active h) refl
  where
    at : (b : Bool) → has_active h ≡ b → has_active h ≡ false
    at true some = let l : 0 < active_count (accepted_in h) = count_some (is_active (accepted_in h)) (txn_numbers (accepted_in h)) some in absurd (omega arith)
    at false none_it_has = none_it_has
