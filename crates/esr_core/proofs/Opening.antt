-- The machine before its first event, and its totals.
use Rattle.std.proofs.Common.{◌≡◌, ℕ, ℤ, ◌+◌, List, [], ◌∷◌, refl, sym, ◌∙◌, ap, map, if◌then◌else◌, arith, sum_by}
use Rattle.std.proofs.lemmas.Bool.{cases_Bool}
use Rattle.std.proofs.lemmas.List.Sums.{sum_by-cons}
use Rattle.esr_core.specs.Types.{Event}
use Rattle.esr_history.specs.Events.{kind_of, is_query_kind, txn_numbers, is_query}
use Rattle.esr_history.specs.Machine.{charges, import_in, export_in}
use Rattle.esr_history.proofs.KindLaws.{query_kind}
use Rattle.esr_history.proofs.Sides.{charges_kinds, no_import, no_export}
use Rattle.esr_history.proofs.TraceAgreement.{query_not_update}
use Rattle.esr_ledgers.specs.declared.account.Account.{Account}
use Rattle.esr_ledgers.specs.Books.{imports, exports}
use Rattle.esr_core.specs.Represented.{account_after, books_of}

-- the sums of the accounts are those of the transactions
module _ (d : ℕ → ℤ → ℤ → ℕ) (opening : List ℤ) (events : List Event) where
  pub imports_of : imports (books_of d opening events) ≡ sum_by (λ t. import_in (charges d opening events) t) (txn_numbers events)
  imports_of = each (txn_numbers events)
    where
      one : (t : ℕ) → (if is_query_kind (kind_of (is_query events t)) then (if is_query events t then import_in (charges d opening events) t else export_in (charges d opening events) t) else 0) ≡ import_in (charges d opening events) t
      one t = rw (query_kind (is_query events t)) (grind (arith, cases_Bool (is_query events t), no_import, charges_kinds d opening events))

      each : (ts : List ℕ) → imports (map (account_after d opening events) ts) ≡ sum_by (λ t. import_in (charges d opening events) t) ts
      each [] = refl
      each (t ∷ ts) =
          let a = sum_by-cons (λ (b : Account). if is_query_kind b.kind then b.amount else 0) (account_after d opening events t) (map (account_after d opening events) ts) in
          let b = sum_by-cons (λ u. import_in (charges d opening events) u) t ts in
          a ∙ (ap (λ n. n + imports (map (account_after d opening events) ts)) (one t) ∙ (ap (λ n. import_in (charges d opening events) t + n) (each ts) ∙ sym b))

  pub exports_of : exports (books_of d opening events) ≡ sum_by (λ t. export_in (charges d opening events) t) (txn_numbers events)
  exports_of = each (txn_numbers events)
    where
      one : (t : ℕ) → (if is_query_kind (kind_of (is_query events t)) then 0 else (if is_query events t then import_in (charges d opening events) t else export_in (charges d opening events) t)) ≡ export_in (charges d opening events) t
      one t = rw (query_kind (is_query events t)) (grind (arith, cases_Bool (is_query events t), no_export, charges_kinds d opening events, query_not_update))

      each : (ts : List ℕ) → exports (map (account_after d opening events) ts) ≡ sum_by (λ t. export_in (charges d opening events) t) ts
      each [] = refl
      each (t ∷ ts) =
          let a = sum_by-cons (λ (b : Account). if is_query_kind b.kind then 0 else b.amount) (account_after d opening events t) (map (account_after d opening events) ts) in
          let b = sum_by-cons (λ u. export_in (charges d opening events) u) t ts in
          a ∙ (ap (λ n. n + exports (map (account_after d opening events) ts)) (one t) ∙ (ap (λ n. export_in (charges d opening events) t + n) (each ts) ∙ sym b))
