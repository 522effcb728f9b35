-- Facts that hold if an event is accepted.
use Rattle.std.proofs.Common.{◌≡◌, ℕ, ◌<◌, ◌≤◌, List, [], ◌∷◌, ◌++◌, length, Bool, true, false, ◌&&◌, ◌==◌, refl, sym, ◌∙◌, ap, subst, arith, Option, None, Some, if◌then◌else◌, All}
use Rattle.std.specs.List.{filter_map, cons_option, AllByRecursion}
use Rattle.std.proofs.lemmas.Bool.{false≢true, and_parts}
use Rattle.std.proofs.lemmas.Bool.Decides.{nat_tests}
use Rattle.std.proofs.lemmas.List.Elements.{All-from_recursion}
use Rattle.std.proofs.lemmas.List.Sums.{sum_by-le-sum_by}
use Rattle.esr_items.specs.Values.{versions_at}
use Rattle.esr_core.specs.Types.{Versions, ItemId, TxnId, Event, BeginUpdate, BeginQuery, Read, Write, Commit, Abort, Refusal}
use Rattle.esr_history.specs.Events.{txn_numbers, reads, reads_any, is_query, is_update, is_active, holds_read, read_count, total_read_count}
use Rattle.esr_history.specs.Machine.{DistanceFunction, Schedule, accepted_in, due_in, first_reason, refusal, reasons, Charge, import_full, export_full}
use Rattle.esr_history.specs.ItemLocks.{ItemLocks, query_reads}
use Rattle.esr_history.proofs.Allowed.{none_applies, read_allowed}
use Rattle.esr_history.proofs.LegalWellFormed.{when_none, not_ended}
use Rattle.esr_ledgers.specs.declared.account.Account.{Account}
use Rattle.esr_ledgers.specs.declared.ledgers.Quote.{Quote}
use Rattle.esr_ledgers.specs.declared.ledgers.Quote.TheVariants.{Fits}
use Rattle.esr_ledgers.specs.Books.{quote_of, charged}
use Rattle.esr_locks.specs.Tables.{locks_at}
use Rattle.esr_core.specs.Represented.{Represents, books_of, Transaction}
use Rattle.esr_core.specs.States.{charges_by, reason_of, read_charge, charged_once}
use Rattle.esr_core.proofs.Locks.{locks_at_item}
use Rattle.esr_core.proofs.Accounts.{books-unchanged}
use Rattle.esr_core.proofs.Charges.{quote_reason, books-charged}
use Rattle.esr_core.proofs.Reasons.{due_some, due_none}

pub fits_from : (q : Quote) → reason_of q ≡ None → q ≡ Fits
fits_from Fits is = refl
fits_from _ is = absurd (cc)

reads_le : (es : List Event) (t x : ℕ) → read_count es t x ≤ total_read_count es t
reads_le es t x = sum_by-le-sum_by (λ e. if reads t x e then 1 else 0) (λ e. if reads_any t e then 1 else 0) es one
  where
    le : (a b : Bool) → (a ≡ true → b ≡ true) → (if a then 1 else 0) ≤ (if b then 1 else 0)
    le true true is = omega arith
    le true false is = absurd (false≢true (is refl))
    le false true is = omega arith
    le false false is = omega arith

    any : (e : Event) → reads t x e ≡ true → reads_any t e ≡ true
    any (Read u y) is = (and_parts (u.0 == t) (y.0 == x) is).0
    any (Write u y v) is = absurd (false≢true is)
    any (BeginUpdate l) is = absurd (false≢true is)
    any (BeginQuery l s) is = absurd (false≢true is)
    any (Commit u) is = absurd (false≢true is)
    any (Abort u) is = absurd (false≢true is)

    one : (e : Event) → (if reads t x e then 1 else 0) ≤ (if reads_any t e then 1 else 0)
    one e = le (reads t x e) (reads_any t e) (any e)

pub read_active : (d : DistanceFunction) (h : Schedule) (t : TxnId) (x : ItemId) → refusal d h (Read t x) ≡ None → is_active (accepted_in h) t.0 ≡ true
read_active d h t x none = not_ended h t.0 (read_allowed d h t x (none_applies (reasons d h (Read t x)) none)).active

pub read_bounded : (d : DistanceFunction) (h : Schedule) (t : TxnId) (x : ItemId) → refusal d h (Read t x) ≡ None → is_query (accepted_in h) t.0 ≡ true → total_read_count (accepted_in h) t.0 < 1000
read_bounded d h t x none query =
    grind (arith, read_allowed d h t x (none_applies (reasons d h (Read t x)) none), none_applies (reasons d h (Read t x)) none, when_none, nat_tests)

module _ (d : DistanceFunction) (h : Schedule) (items : List Versions) (table : List Transaction) (locks : List ItemLocks) (accounts : List Account) (rep : Represents (d h.weights) h.opening (accepted_in h) items table locks accounts) where
  -- the charge of a read that is not refused fits
  pub read_fits : (t u : TxnId) (x : ItemId) (amount : ℕ) → refusal d h (Read t x) ≡ None → is_query (accepted_in h) t.0 ≡ true → is_update (accepted_in h) u.0 ≡ true → due_in d h (Read t x) ≡ charges_by u.0 ((t, amount) ∷ [])
      → quote_of accounts u ((t, amount) ∷ []) ≡ Fits
  read_fits t u x amount none query update owed =
      let allowed = read_allowed d h t x (none_applies (reasons d h (Read t x)) none) in
      let no_reason : first_reason (import_full d h (due_in d h (Read t x)) ∷ export_full d h (due_in d h (Read t x)) ∷ []) ≡ None =
      ap (λ (r : Option Refusal). first_reason (r ∷ export_full d h (due_in d h (Read t x)) ∷ [])) allowed.imports ∙ ap (λ (r : Option Refusal). first_reason (None ∷ r ∷ [])) allowed.exports in
      fits_from (quote_of accounts u ((t, amount) ∷ []))
      (ap (λ (as' : List Account). reason_of (quote_of as' u ((t, amount) ∷ []))) rep.books
      ∙ (sym (quote_reason d h u (t, amount) [] update (query, tt))
      ∙ (ap (λ (cs : List Charge). first_reason (import_full d h cs ∷ export_full d h cs ∷ [])) (sym owed) ∙ no_reason)))

  -- how often each query has read the item
  pub bounded_here : (t x : ℕ) → x < length items → total_read_count (accepted_in h) t < 1000 → All (λ (r : ℕ × ℕ). r.0 ≡ t → r.1 < 1000) (locks_at locks x).queries
  bounded_here t x l count_within_max =
      subst (λ (g : ItemLocks). All (λ (r : ℕ × ℕ). r.0 ≡ t → r.1 < 1000) g.queries) (sym (ap (λ (ls : List ItemLocks). locks_at ls x) rep.locked ∙ locks_at_item (accepted_in h) (length h.opening) x (rw (← rep.count) l)))
      (All-from_recursion (λ (r : ℕ × ℕ). r.0 ≡ t → r.1 < 1000) (filter_map (query_reads (accepted_in h) x) (txn_numbers (accepted_in h))) (each (txn_numbers (accepted_in h))))
    where
      each : (us : List ℕ) → AllByRecursion (λ (r : ℕ × ℕ). r.0 ≡ t → r.1 < 1000) (filter_map (query_reads (accepted_in h) x) us)
      each [] = tt
      each (q ∷ us) = at (is_query (accepted_in h) q && holds_read (accepted_in h) q x) (each us)
        where
          at : (b : Bool) → AllByRecursion (λ (r : ℕ × ℕ). r.0 ≡ t → r.1 < 1000) (filter_map (query_reads (accepted_in h) x) us) → AllByRecursion (λ (r : ℕ × ℕ). r.0 ≡ t → r.1 < 1000) (cons_option (if b then Some (q, read_count (accepted_in h) q x) else None) (filter_map (query_reads (accepted_in h) x) us))
          at true later = ((λ e. let le : read_count (accepted_in h) q x ≤ total_read_count (accepted_in h) q = reads_le (accepted_in h) q x in let same : total_read_count (accepted_in h) q ≡ total_read_count (accepted_in h) t = ap (total_read_count (accepted_in h)) e in omega arith), later)
          at false later = later

  -- the accounts after a read by a query
  pub read_books : (t : TxnId) (x : ItemId) → is_query (accepted_in h) t.0 ≡ true → x.0 < length items
      → charged_once accounts t (read_charge (d h.weights x.0) (versions_at items x.0) (locks_at locks x.0).writer) ≡ books_of (d h.weights) h.opening (accepted_in h ++ Read t x ∷ [])
  read_books t x query l = at (read_charge (d h.weights x.0) (versions_at items x.0) (locks_at locks x.0).writer) refl
    where
      at : (o : Option (TxnId × ℕ)) → read_charge (d h.weights x.0) (versions_at items x.0) (locks_at locks x.0).writer ≡ o → charged_once accounts t o ≡ books_of (d h.weights) h.opening (accepted_in h ++ Read t x ∷ [])
      at None is = rep.books ∙ books-unchanged (d h.weights) h.opening (accepted_in h) (Read t x) refl (due_none d h items table locks accounts rep t x l is)
      at (Some c) is =
          let owed = due_some d h items table locks accounts rep t x c query l is in
          ap (λ (as' : List Account). charged as' c.0 ((t, c.1) ∷ [])) rep.books ∙ books-charged (d h.weights) h.opening (accepted_in h) (Read t x) refl c.0 ((t, c.1) ∷ []) owed.1 owed.0
