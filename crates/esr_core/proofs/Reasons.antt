-- The reasons to refuse an event, by the parts of the machine.
use Rattle.std.proofs.Common.{◌≡◌, ℕ, suc, ℤ, ◌<◌, ◌≤◌, List, [], ◌∷◌, length, Bool, true, false, ◌&&◌, refl, sym, ◌∙◌, ap, subst, arith, Option, None, Some, if◌then◌else◌, get_or, ◌-◌, ◌+◌, nat_le}
use Rattle.std.proofs.lemmas.Bool.{and_parts}
use Rattle.std.proofs.lemmas.Bool.Decides.{nat_tests}
use Rattle.std.proofs.lemmas.Option.{same_Some}
use Rattle.std.proofs.lemmas.List.Elements.{All-from_recursion}
use Rattle.esr_items.specs.Values.{versions_at}
use Rattle.esr_core.specs.Types.{Versions, ItemId, TxnId, Event, Read, Refusal, TooManyReads, QueryMayNotWrite}
use Rattle.esr_history.specs.Events.{is_query_kind, txn_numbers, is_query, is_update, holds_write, total_read_count}
use Rattle.esr_history.specs.Machine.{DistanceFunction, Schedule, Charge, accepted_in, due_in, writer, charge_of_read, first_reason, not_begun, ended, no_item, many_reads, query_writes, out_of_range, read_blocked, write_blocked, blocked_by, import_full, export_full, refusal, when, other_writer, other_holder}
use Rattle.esr_history.specs.ItemLocks.{ItemLocks, item_locks}
use Rattle.esr_history.proofs.KindLaws.{query_kind}
use Rattle.esr_history.proofs.Lists.{found_satisfies}
use Rattle.esr_ledgers.specs.declared.account.Account.{Account}
use Rattle.esr_ledgers.specs.Books.{quote_of, AreCharges, is_open_query}
use Rattle.esr_history.specs.Ascending.{IsSmallest}
use Rattle.esr_locks.specs.Tables.{locks_at, blocks_read, blocks_write}
use Rattle.esr_core.specs.Represented.{Represents, books_of, transaction_after, Transaction}
use Rattle.esr_core.specs.States.{charge_to, charges_by, reason_of, read_charge}
use Rattle.esr_core.proofs.Rows.{row_is}
use Rattle.esr_core.proofs.Locks.{locks_len, locks_at_item, find_read_blocker, find_write_blocker}
use Rattle.esr_core.proofs.Accounts.{open_query_is, open_update_is}
use Rattle.esr_core.proofs.Charges.{quote_reason}

skip : (a b c : Option Refusal) (rs : List (Option Refusal)) → None ≡ first_reason (a ∷ b ∷ []) → None ≡ c → first_reason (a ∷ b ∷ c ∷ rs) ≡ first_reason rs
skip None None None rs p q = refl
skip None None (Some w) rs p q = absurd (cc)
skip None (Some v) c rs p q = absurd (cc)
skip (Some u) b c rs p q = absurd (cc)

without : (a b c : Option Refusal) → first_reason (a ∷ None ∷ b ∷ c ∷ []) ≡ first_reason (a ∷ b ∷ c ∷ [])
without None b c = refl
without (Some w) b c = refl

alone : (a : Option Refusal) → first_reason (a ∷ None ∷ None ∷ []) ≡ a
alone None = refl
alone (Some w) = refl

pub writer_update : (events : List Event) (x u : ℕ) → writer events x ≡ Some u → is_update events u ≡ true
writer_update events x u found = (and_parts (is_update events u) (holds_write events u x) (found_satisfies (λ v. is_update events v && holds_write events v x) (txn_numbers events) u found)).0

module _ (d : DistanceFunction) (h : Schedule) (items : List Versions) (table : List Transaction) (locks : List ItemLocks) (accounts : List Account) (rep : Represents (d h.weights) h.opening (accepted_in h) items table locks accounts) where
  pub locks_count : length locks ≡ length items
  locks_count = ap length rep.locked ∙ (locks_len (accepted_in h) (length h.opening) ∙ sym rep.count)

  -- the row that is found at a transaction's number
  module _ (t : ℕ) (r : Transaction) (known : (0 < t) × (t ≤ length table)) (at : (k : ℕ) → t ≡ k + 1 → r ≡ get_or table k r) where
    row_known : r ≡ transaction_after (accepted_in h) t
    row_known =
        let number : t ≡ suc (t - 1) = omega arith in
        row_is (accepted_in h) table rep.rows (t - 1) r (omega arith) (at (t - 1) (omega arith)) ∙ ap (transaction_after (accepted_in h)) (sym number)

    pub row_query : is_query_kind r.kind ≡ is_query (accepted_in h) t
    row_query = ap (λ (q : Transaction). is_query_kind q.kind) row_known ∙ query_kind (is_query (accepted_in h) t)

    pub row_reads : is_query (accepted_in h) t ≡ true → r.reads ≡ total_read_count (accepted_in h) t
    row_reads query = ap (λ (q : Transaction). q.reads) row_known ∙ ap (λ (b : Bool). if b then total_read_count (accepted_in h) t else 0) query

  inside : (x : ℕ) → x < length items → x < length h.opening
  inside x l = rw (← rep.count) l

  writer_at : (x : ℕ) → x < length items → writer (accepted_in h) x ≡ (locks_at locks x).writer
  writer_at x l = sym (ap (λ (ls : List ItemLocks). (locks_at ls x).writer) rep.locked ∙ ap (λ (g : ItemLocks). g.writer) (locks_at_item (accepted_in h) (length h.opening) x (inside x l)))

  -- the charge of a read by a query
  pub due_some : (t : TxnId) (x : ItemId) (c : TxnId × ℕ) → is_query (accepted_in h) t.0 ≡ true → x.0 < length items → read_charge (d h.weights x.0) (versions_at items x.0) (locks_at locks x.0).writer ≡ Some c
      → (due_in d h (Read t x) ≡ charges_by c.0.0 ((t, c.1) ∷ [])) × (is_update (accepted_in h) c.0.0 ≡ true)
  due_some t x c query l is = at (locks_at locks x.0).writer (writer_at x.0 l) is
    where
      at : (w : Option ℕ) → writer (accepted_in h) x.0 ≡ w → read_charge (d h.weights x.0) (versions_at items x.0) w ≡ Some c → (due_in d h (Read t x) ≡ charges_by c.0.0 ((t, c.1) ∷ [])) × (is_update (accepted_in h) c.0.0 ≡ true)
      at None found some = absurd (cc)
      at (Some u) found some = grind (arith, same_Some, charge_to, inside x.0 l, charges_by, writer_update (accepted_in h) x.0 u found)

  pub due_none : (t : TxnId) (x : ItemId) → x.0 < length items → read_charge (d h.weights x.0) (versions_at items x.0) (locks_at locks x.0).writer ≡ None → due_in d h (Read t x) ≡ []
  due_none t x l is = grind (arith, writer_at x.0 l)

  -- a single charge is one of an update to a query
  pub are_charges-read : (t u : TxnId) (amount : ℕ) → is_query (accepted_in h) t.0 ≡ true → is_update (accepted_in h) u.0 ≡ true → AreCharges accounts u ((t, amount) ∷ [])
  are_charges-read t u amount query update =
      subst (λ (as' : List Account). AreCharges as' u ((t, amount) ∷ [])) (sym rep.books) (record {
        update = open_update_is (d h.weights) h.opening (accepted_in h) u.0 update;
        queries = All-from_recursion (λ (c : TxnId × ℕ). is_open_query (books_of (d h.weights) h.opening (accepted_in h)) c.0.0 ≡ true) ((t, amount) ∷ []) (open_query_is (d h.weights) h.opening (accepted_in h) t.0 query, tt);
        ascending = (tt, tt);
      })

  many_none : (t : ℕ) → total_read_count (accepted_in h) t < 1000 → many_reads h t ≡ None
  many_none t l = grind (arith, nat_tests)

  -- why a read by a query is refused
  pub query_many : (t : TxnId) (x : ItemId) → is_query (accepted_in h) t.0 ≡ true → 1000 ≤ total_read_count (accepted_in h) t.0
      → Some TooManyReads ≡ first_reason (many_reads h t.0 ∷ import_full d h (due_in d h (Read t x)) ∷ export_full d h (due_in d h (Read t x)) ∷ [])
  query_many t x query l = grind (arith, nat_tests)

  pub query_none : (t : TxnId) (x : ItemId) → total_read_count (accepted_in h) t.0 < 1000 → due_in d h (Read t x) ≡ []
      → None ≡ first_reason (many_reads h t.0 ∷ import_full d h (due_in d h (Read t x)) ∷ export_full d h (due_in d h (Read t x)) ∷ [])
  query_none t x l none = grind (arith, many_none t.0 l)

  pub query_some : (t u : TxnId) (x : ItemId) (amount : ℕ) → is_query (accepted_in h) t.0 ≡ true → is_update (accepted_in h) u.0 ≡ true → total_read_count (accepted_in h) t.0 < 1000 → due_in d h (Read t x) ≡ charges_by u.0 ((t, amount) ∷ [])
      → reason_of (quote_of accounts u ((t, amount) ∷ [])) ≡ first_reason (many_reads h t.0 ∷ import_full d h (due_in d h (Read t x)) ∷ export_full d h (due_in d h (Read t x)) ∷ [])
  query_some t u x amount query update l owed =
      ap (λ (as' : List Account). reason_of (quote_of as' u ((t, amount) ∷ []))) rep.books
      ∙ (sym (quote_reason d h u (t, amount) [] update (query, tt))
      ∙ sym (ap (λ (r : Option Refusal). first_reason (r ∷ import_full d h (due_in d h (Read t x)) ∷ export_full d h (due_in d h (Read t x)) ∷ [])) (many_none t.0 l)
      ∙ ap (λ (cs : List Charge). first_reason (None ∷ import_full d h cs ∷ export_full d h cs ∷ [])) owed))

  -- the reason for refusing a read if the transaction is active and the item exists
  pub read_query : (t : TxnId) (x : ItemId) → is_query (accepted_in h) t.0 ≡ true → None ≡ first_reason (not_begun h t.0 ∷ ended h t.0 ∷ []) → None ≡ no_item h x.0
      → first_reason (many_reads h t.0 ∷ import_full d h (due_in d h (Read t x)) ∷ export_full d h (due_in d h (Read t x)) ∷ []) ≡ refusal d h (Read t x)
  read_query t x query active item = grind (arith, skip, without)

  pub read_update : (t : TxnId) (x : ItemId) (r : Option ℕ) → x.0 < length items → IsSmallest (blocks_read (locks_at locks x.0) t.0) r → is_query (accepted_in h) t.0 ≡ false → None ≡ first_reason (not_begun h t.0 ∷ ended h t.0 ∷ []) → None ≡ no_item h x.0
      → blocked_by r ≡ refusal d h (Read t x)
  read_update t x r l least no_query active item =
      let here : locks_at locks x.0 ≡ item_locks (accepted_in h) x.0 = ap (λ (ls : List ItemLocks). locks_at ls x.0) rep.locked ∙ locks_at_item (accepted_in h) (length h.opening) x.0 (inside x.0 l) in
      let found : other_writer (accepted_in h) t.0 x.0 ≡ r = find_read_blocker (accepted_in h) rep.orderly t.0 x.0 r (subst (λ (g : ItemLocks). IsSmallest (blocks_read g t.0) r) here least) in
      sym (skip (not_begun h t.0) (ended h t.0) (no_item h x.0) (many_reads h t.0 ∷ read_blocked h t.0 x.0 ∷ import_full d h (due_in d h (Read t x)) ∷ export_full d h (due_in d h (Read t x)) ∷ []) active item
      ∙ (ap (λ (b : Bool). first_reason (when (b && nat_le 1000 (total_read_count (accepted_in h) t.0)) TooManyReads ∷ (if b then None else blocked_by (other_writer (accepted_in h) t.0 x.0)) ∷ import_full d h (if b then charge_of_read (d h.weights) h.opening (accepted_in h) t.0 x.0 (writer (accepted_in h) x.0) else []) ∷ export_full d h (if b then charge_of_read (d h.weights) h.opening (accepted_in h) t.0 x.0 (writer (accepted_in h) x.0) else []) ∷ [])) no_query
      ∙ (alone (blocked_by (other_writer (accepted_in h) t.0 x.0)) ∙ ap blocked_by found)))

  -- why a write is refused before its charges
  pub write_barred : (t : TxnId) (x : ItemId) (v : ℤ) (r : Option ℕ) → x.0 < length items → IsSmallest (blocks_write (locks_at locks x.0) t.0) r → is_query (accepted_in h) t.0 ≡ false → None ≡ first_reason (not_begun h t.0 ∷ ended h t.0 ∷ []) → None ≡ no_item h x.0 → None ≡ out_of_range v
      → blocked_by r ≡ first_reason (not_begun h t.0 ∷ ended h t.0 ∷ no_item h x.0 ∷ query_writes h t.0 ∷ out_of_range v ∷ write_blocked h t.0 x.0 ∷ [])
  write_barred t x v r l least no_query active item range =
      let here : locks_at locks x.0 ≡ item_locks (accepted_in h) x.0 = ap (λ (ls : List ItemLocks). locks_at ls x.0) rep.locked ∙ locks_at_item (accepted_in h) (length h.opening) x.0 (inside x.0 l) in
      let found : other_holder (accepted_in h) t.0 x.0 ≡ r = find_write_blocker (accepted_in h) rep.orderly t.0 x.0 r (subst (λ (g : ItemLocks). IsSmallest (blocks_write g t.0) r) here least) in
      sym (skip (not_begun h t.0) (ended h t.0) (no_item h x.0) (query_writes h t.0 ∷ out_of_range v ∷ write_blocked h t.0 x.0 ∷ []) active item
      ∙ (ap (λ (b : Bool). first_reason (when b QueryMayNotWrite ∷ out_of_range v ∷ write_blocked h t.0 x.0 ∷ [])) no_query
      ∙ (ap (λ (o : Option Refusal). first_reason (o ∷ write_blocked h t.0 x.0 ∷ [])) (sym range)
      ∙ (only (write_blocked h t.0 x.0) ∙ ap blocked_by found))))
    where
      only : (a : Option Refusal) → first_reason (a ∷ []) ≡ a
      only None = refl
      only (Some w) = refl

  pub write_query : (t : TxnId) (x : ItemId) (v : ℤ) → is_query (accepted_in h) t.0 ≡ true → None ≡ first_reason (not_begun h t.0 ∷ ended h t.0 ∷ []) → None ≡ no_item h x.0
      → Some QueryMayNotWrite ≡ first_reason (not_begun h t.0 ∷ ended h t.0 ∷ no_item h x.0 ∷ query_writes h t.0 ∷ out_of_range v ∷ write_blocked h t.0 x.0 ∷ [])
  write_query t x v query active item = grind (arith, skip)

  pub write_range : (t : TxnId) (x : ItemId) (v : ℤ) (why : Refusal) → is_query (accepted_in h) t.0 ≡ false → Some why ≡ out_of_range v → None ≡ first_reason (not_begun h t.0 ∷ ended h t.0 ∷ []) → None ≡ no_item h x.0
      → Some why ≡ first_reason (not_begun h t.0 ∷ ended h t.0 ∷ no_item h x.0 ∷ query_writes h t.0 ∷ out_of_range v ∷ write_blocked h t.0 x.0 ∷ [])
  write_range t x v why no_query range active item = grind (arith, skip)

-- the other reasons precede the charges of a write
pub write_split : (a b c e f g i j : Option Refusal) → first_reason (a ∷ b ∷ c ∷ e ∷ f ∷ g ∷ []) ≡ None → first_reason (a ∷ b ∷ c ∷ e ∷ f ∷ g ∷ i ∷ j ∷ []) ≡ first_reason (i ∷ j ∷ [])
write_split None None None None None None i j none = refl
write_split None None None None None (Some w) i j none = absurd (cc)
write_split None None None None (Some w) g i j none = absurd (cc)
write_split None None None (Some w) f g i j none = absurd (cc)
write_split None None (Some w) e f g i j none = absurd (cc)
write_split None (Some w) c e f g i j none = absurd (cc)
write_split (Some w) b c e f g i j none = absurd (cc)

pub write_first : (a b c e f g i j : Option Refusal) (why : Refusal) → first_reason (a ∷ b ∷ c ∷ e ∷ f ∷ g ∷ []) ≡ Some why → first_reason (a ∷ b ∷ c ∷ e ∷ f ∷ g ∷ i ∷ j ∷ []) ≡ Some why
write_first None None None None None None i j why is = absurd (cc)
write_first None None None None None (Some w) i j why is = is
write_first None None None None (Some w) g i j why is = is
write_first None None None (Some w) f g i j why is = is
write_first None None (Some w) e f g i j why is = is
write_first None (Some w) c e f g i j why is = is
write_first (Some w) b c e f g i j why is = is
