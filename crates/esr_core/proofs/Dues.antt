-- The charges of an event have the imports that the specification defines.
use Rattle.std.proofs.Common.{◌≡◌, ℕ, ℤ, ◌+◌, ◌<◌, List, [], ◌∷◌, length, true, false, refl, sym, ◌∙◌, ap, Bool, Option, None, Some, ◌==◌, if◌then◌else◌}
use Rattle.std.proofs.lemmas.List.Sums.{sum_by-cons}
use Rattle.esr_items.specs.Values.{versions_at}
use Rattle.esr_core.specs.Types.{Versions, ItemId, TxnId, Read, Write}
use Rattle.esr_history.specs.Events.{is_query, is_update}
use Rattle.esr_history.specs.Machine.{DistanceFunction, Schedule, Charge, accepted_in, due_in, charge_of_read, import_in, writer}
use Rattle.esr_history.specs.ItemLocks.{ItemLocks}
use Rattle.esr_history.specs.Imports.{imported}
use Rattle.esr_ledgers.specs.declared.account.Account.{Account}
use Rattle.esr_locks.specs.Tables.{locks_at}
use Rattle.esr_core.specs.Represented.{Represents, Transaction}
use Rattle.esr_core.specs.States.{charge_to, charges_by, read_charge, charges_for}
use Rattle.esr_core.proofs.Reasons.{due_some, due_none}
use Rattle.esr_core.proofs.Writes.{owed, due_is}

import_is_sum : (u : ℕ) (cs : List (TxnId × ℕ)) (q : ℕ) → imported cs q ≡ import_in (charges_by u cs) q
import_is_sum u [] q = refl
import_is_sum u (c ∷ cs) q =
    sum_by-cons (λ (g : TxnId × ℕ). if g.0.0 == q then g.1 else 0) c cs
    ∙ (ap (λ n. (if c.0.0 == q then c.1 else 0) + n) (import_is_sum u cs q)
    ∙ sym (sum_by-cons (λ (g : Charge). if g.query == q then g.amount else 0) (charge_to u c) (charges_by u cs)))

module _ (d : DistanceFunction) (h : Schedule) (items : List Versions) (table : List Transaction) (locks : List ItemLocks) (accounts : List Account) (rep : Represents (d h.weights) h.opening (accepted_in h) items table locks accounts) where
  pub owed_imports : (t : TxnId) (x : ItemId) (v : ℤ) (l : x.0 < length items) → is_update (accepted_in h) t.0 ≡ true → (q : ℕ)
      → imported (owed d h items table locks accounts rep t x v l) q ≡ import_in (due_in d h (Write t x v)) q
  owed_imports t x v l update q =
      import_is_sum t.0 (owed d h items table locks accounts rep t x v l) q ∙ ap (λ cs. import_in cs q) (sym (due_is d h items table locks accounts rep t x v l update))

  pub read_imports : (t : TxnId) (x : ItemId) → is_query (accepted_in h) t.0 ≡ true → x.0 < length items → (q : ℕ)
      → imported (charges_for t (read_charge (d h.weights x.0) (versions_at items x.0) (locks_at locks x.0).writer)) q ≡ import_in (due_in d h (Read t x)) q
  read_imports t x query l q = at (read_charge (d h.weights x.0) (versions_at items x.0) (locks_at locks x.0).writer) refl
    where
      at : (o : Option (TxnId × ℕ)) → read_charge (d h.weights x.0) (versions_at items x.0) (locks_at locks x.0).writer ≡ o → imported (charges_for t o) q ≡ import_in (due_in d h (Read t x)) q
      at None is = ap (λ cs. import_in cs q) (sym (due_none d h items table locks accounts rep t x l is))
      at (Some c) is = import_is_sum c.0.0 ((t, c.1) ∷ []) q ∙ ap (λ cs. import_in cs q) (sym (due_some d h items table locks accounts rep t x c query l is).0)

  -- a read by an update imports nothing
  pub update_imports : (t : TxnId) (x : ItemId) → is_query (accepted_in h) t.0 ≡ false → (q : ℕ) → 0 ≡ import_in (due_in d h (Read t x)) q
  update_imports t x query q = sym (ap (λ (b : Bool). import_in (if b then charge_of_read (d h.weights) h.opening (accepted_in h) t.0 x.0 (writer (accepted_in h) x.0) else []) q) query)
