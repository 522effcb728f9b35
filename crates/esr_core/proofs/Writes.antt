-- The charges of a write, by the parts of the machine.
use Rattle.std.proofs.Common.{◌≡◌, ℕ, ℤ, ◌<◌, List, [], ◌∷◌, ◌++◌, length, Bool, true, false, ◌&&◌, refl, sym, ◌∙◌, ap, subst, Option, None, Some, if◌then◌else◌, arith}
use Rattle.std.specs.List.{filter_map, cons_option, AllByRecursion}
use Rattle.std.proofs.lemmas.Bool.{and_parts}
use Rattle.esr_items.specs.Values.{current_at}
use Rattle.esr_core.specs.Types.{Versions, ItemId, TxnId, Event, Write, Refusal, QueryMayNotWrite}
use Rattle.esr_history.specs.Events.{txn_numbers, is_query, is_update, is_active, holds_read, read_count, current_value}
use Rattle.esr_history.specs.Machine.{DistanceFunction, Schedule, accepted_in, due_in, first_reason, not_begun, ended, no_item, query_writes, out_of_range, write_blocked, import_full, export_full, refusal}
use Rattle.esr_history.specs.ItemLocks.{ItemLocks, query_reads}
use Rattle.esr_history.proofs.Allowed.{WriteOpen, none_applies, write_open}
use Rattle.esr_history.proofs.LegalWellFormed.{when_none, not_ended, update_from}
use Rattle.esr_history.proofs.WellFormed.{active_parts}
use Rattle.esr_ledgers.specs.declared.account.Account.{Account}
use Rattle.esr_ledgers.specs.Books.{AreCharges, charged}
use Rattle.esr_locks.specs.Tables.{locks_at}
use Rattle.esr_core.specs.Represented.{Represents, books_of, Transaction}
use Rattle.esr_core.specs.States.{charges_by, charges_to, reason_for}
use Rattle.esr_core.proofs.Locks.{locks_at_item}
use Rattle.esr_core.proofs.Charges.{quote_reason, due-write, are_charges-write, books-charged}
use Rattle.esr_core.proofs.Reasons.{write_split, write_first}

-- the reasons to refuse a write, apart from its charges
abbrev pub barred : Schedule → TxnId → ItemId → ℤ → Option Refusal
barred h t x v = first_reason (not_begun h t.0 ∷ ended h t.0 ∷ no_item h x.0 ∷ query_writes h t.0 ∷ out_of_range v ∷ write_blocked h t.0 x.0 ∷ [])

open_of : (h : Schedule) (t : TxnId) (x : ItemId) (v : ℤ) → barred h t x v ≡ None → WriteOpen h t x v
open_of h t x v none = grind (arith, write_open, none_applies)

pub active_of : (h : Schedule) (t : TxnId) (x : ItemId) (v : ℤ) → barred h t x v ≡ None → is_active (accepted_in h) t.0 ≡ true
active_of h t x v none = not_ended h t.0 (open_of h t x v none).active

pub update_of : (h : Schedule) (t : TxnId) (x : ItemId) (v : ℤ) → barred h t x v ≡ None → is_update (accepted_in h) t.0 ≡ true
update_of h t x v none =
    update_from (accepted_in h) t.0 (active_parts (accepted_in h) t.0 (active_of h t x v none)).0 (when_none (is_query (accepted_in h) t.0) QueryMayNotWrite (open_of h t x v none).update)

pub barred_first : (d : DistanceFunction) (h : Schedule) (t : TxnId) (x : ItemId) (v : ℤ) (why : Refusal) → barred h t x v ≡ Some why → refusal d h (Write t x v) ≡ Some why
barred_first d h t x v why is = grind (arith, write_first)

queries_charged : (events : List Event) (x amount : ℕ) (us : List ℕ) → AllByRecursion (λ (c : TxnId × ℕ). is_query events c.0.0 ≡ true) (charges_to amount (filter_map (query_reads events x) us))
queries_charged events x amount [] = tt
queries_charged events x amount (q ∷ us) = at (is_query events q && holds_read events q x) refl (queries_charged events x amount us)
  where
    at : (b : Bool) → (is_query events q && holds_read events q x) ≡ b → AllByRecursion (λ (c : TxnId × ℕ). is_query events c.0.0 ≡ true) (charges_to amount (filter_map (query_reads events x) us))
        → AllByRecursion (λ (c : TxnId × ℕ). is_query events c.0.0 ≡ true) (charges_to amount (cons_option (if b then Some (q, read_count events q x) else None) (filter_map (query_reads events x) us)))
    at true is later = ((and_parts (is_query events q) (holds_read events q x) is).0, later)
    at false is later = later

module _ (d : DistanceFunction) (h : Schedule) (items : List Versions) (table : List Transaction) (locks : List ItemLocks) (accounts : List Account) (rep : Represents (d h.weights) h.opening (accepted_in h) items table locks accounts) (t : TxnId) (x : ItemId) (v : ℤ) (l : x.0 < length items) where
  abbrev pub owed : List (TxnId × ℕ)
  owed = charges_to (d h.weights x.0 v (current_at items x.0)) (locks_at locks x.0).queries

  owed_is : owed ≡ charges_to (d h.weights x.0 v (current_value h.opening (accepted_in h) x.0)) (filter_map (query_reads (accepted_in h) x.0) (txn_numbers (accepted_in h)))
  owed_is = grind (arith, locks_at_item (accepted_in h) (length h.opening) x.0 (rw (← rep.count) l))

  pub are_charges : is_update (accepted_in h) t.0 ≡ true → AreCharges accounts t owed
  are_charges update =
      subst (λ (as' : List Account). AreCharges as' t owed) (sym rep.books)
      (subst (λ (cs : List (TxnId × ℕ)). AreCharges (books_of (d h.weights) h.opening (accepted_in h)) t cs) (sym owed_is) (are_charges-write (d h.weights) h.opening (accepted_in h) t x.0 (d h.weights x.0 v (current_value h.opening (accepted_in h) x.0)) update))

  pub due_is : is_update (accepted_in h) t.0 ≡ true → due_in d h (Write t x v) ≡ charges_by t.0 owed
  due_is update = due-write (d h.weights) h.opening (accepted_in h) t x v update ∙ ap (charges_by t.0) (sym owed_is)

  pub write_books : is_update (accepted_in h) t.0 ≡ true → charged accounts t owed ≡ books_of (d h.weights) h.opening (accepted_in h ++ Write t x v ∷ [])
  write_books update = ap (λ (as' : List Account). charged as' t owed) rep.books ∙ books-charged (d h.weights) h.opening (accepted_in h) (Write t x v) refl t owed update (due_is update)

  reason_is : is_update (accepted_in h) t.0 ≡ true → (cs : List (TxnId × ℕ)) → AllByRecursion (λ (c : TxnId × ℕ). is_query (accepted_in h) c.0.0 ≡ true) cs → first_reason (import_full d h (charges_by t.0 cs) ∷ export_full d h (charges_by t.0 cs) ∷ []) ≡ reason_for accounts t cs
  reason_is update [] all = refl
  reason_is update (c ∷ cs) all = quote_reason d h t c cs update all ∙ ap (λ (as' : List Account). reason_for as' t (c ∷ cs)) (sym rep.books)

  -- a write that is not barred is refused for its charges alone
  pub write_reason : barred h t x v ≡ None → refusal d h (Write t x v) ≡ reason_for accounts t owed
  write_reason none = grind (arith, update_of h t x v none, write_split, due_is, reason_is, owed_is, queries_charged)
