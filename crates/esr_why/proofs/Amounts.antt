-- The shortfalls of an event, from the charges due.
use Rattle.std.proofs.Common.{◌≡◌, ℕ, ◌+◌, ◌<◌, List, [], ◌∷◌, ◌++◌, length, take, get_or, append_assoc, refl, sym, ◌∙◌, ap, ap₂, arith, Option, None, Some, sum_by}
use Rattle.std.specs.List.{filter_map, cons_option}
use Rattle.std.proofs.lemmas.List.{take_more}
use Rattle.std.proofs.lemmas.List.Elements.{filter_map-append}
use Rattle.std.proofs.lemmas.List.Sums.{sum_by-cons}
use Rattle.esr_base.specs.declared.numbers.TxnId.{TxnId}
use Rattle.esr_history.specs.Machine.{DistanceFunction, Schedule, Charge, total}
use Rattle.esr_core.specs.States.{charge_to, charges_by}
use Rattle.esr_why.specs.declared.shortfall.Shortfall.{Shortfall}
use Rattle.esr_why.specs.Shortfalls.{import_lack, export_lack, listed, shortfalls_of}

one : (s : Option Shortfall) → cons_option s [] ≡ listed s
one None = refl
one (Some s) = refl

-- one charge more
pub lacks_more : (f : TxnId × ℕ → Option Shortfall) (cs : List (TxnId × ℕ)) (i : ℕ) (c : TxnId × ℕ) (before old new : List Shortfall) (s : Option Shortfall) → i < length cs
    → old ≡ before ++ filter_map f (take i cs) → s ≡ f (get_or cs i c) → new ≡ old ++ listed s → new ≡ before ++ filter_map f (take (i + 1) cs)
lacks_more f cs i c before old new s l is is_s more =
    let x = get_or cs i c in let front = take i cs in
    let split : filter_map f (take (i + 1) cs) ≡ filter_map f front ++ listed s =
    ap (filter_map f) (take_more cs i c l) ∙ (filter_map-append f front (x ∷ []) ∙ ap (λ (m : List Shortfall). filter_map f front ++ m) (one (f x) ∙ ap listed (sym is_s))) in
    more ∙ (ap (λ (m : List Shortfall). m ++ listed s) is ∙ (append_assoc before (filter_map f front) (listed s) ∙ ap (λ (m : List Shortfall). before ++ m) (sym split)))

module _ (d : DistanceFunction) (h : Schedule) (u : ℕ) where
  imports_of : (cs : List (TxnId × ℕ)) → filter_map (λ (c : Charge). import_lack d h c.query c.amount) (charges_by u cs) ≡ filter_map (λ (c : TxnId × ℕ). import_lack d h c.0.0 c.1) cs
  imports_of [] = refl
  imports_of (c ∷ cs) = ap (cons_option (import_lack d h c.0.0 c.1)) (imports_of cs)

  total_of : (cs : List (TxnId × ℕ)) → total (charges_by u cs) ≡ sum_by (λ (c : TxnId × ℕ). c.1) cs
  total_of [] = refl
  total_of (c ∷ cs) =
      sum_by-cons (λ (g : Charge). g.amount) (charge_to u c) (charges_by u cs)
      ∙ (ap (λ n. c.1 + n) (total_of cs) ∙ sym (sum_by-cons (λ (g : TxnId × ℕ). g.1) c cs))

  -- the shortfalls of the queries, and then that of the update
  pub shortfalls_by : (cs : List (TxnId × ℕ)) → 0 < length cs
      → shortfalls_of d h (charges_by u cs) ≡ filter_map (λ (c : TxnId × ℕ). import_lack d h c.0.0 c.1) cs ++ listed (export_lack d h u (sum_by (λ (c : TxnId × ℕ). c.1) cs))
  shortfalls_by [] some = absurd (omega (arith, some))
  shortfalls_by (c ∷ cs) some = ap₂ (λ (a b : List Shortfall). a ++ b) (imports_of (c ∷ cs)) (ap (λ n. listed (export_lack d h u n)) (total_of (c ∷ cs)))
