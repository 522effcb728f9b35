-- Each accepted event keeps the machine's parts tied to the accepted events.
use Rattle.std.proofs.Common.{◌≡◌, ℕ, suc, ℤ, ◌+◌, ◌<◌, List, [], ◌∷◌, ◌++◌, length, Bool, true, false, not, ◌&&◌, ◌==◌, refl, sym, ◌∙◌, ap, inl, inr, None, if◌then◌else◌, get_or, set, map, get_or-set_other, get_or-set_same, pos}
use Rattle.std.proofs.Math.ListN.{length-set}
use Rattle.std.specs.List.{list_any}
use Rattle.std.proofs.lemmas.Bool.{cases_Bool, false≢true, cases_eq, ne_eqb, and_parts, and_from, false_from_ne_true}
use Rattle.std.proofs.lemmas.Option.{same_Some}
use Rattle.esr_items.specs.Values.{current_at, committed_at, current_set, both_versions}
use Rattle.esr_core.specs.Types.{Versions, ItemId, TxnId, Event, Read, Write, Commit, Abort}
use Rattle.esr_history.specs.Events.{BeginRecord, kind_of, begin_record_of, begin_records, commits, aborts, reads, reads_any, writes, written, is_begun, is_committed, is_aborted, is_active, is_query, is_update, holds_write, committed_value, current_value}
use Rattle.esr_history.specs.Machine.{due}
use Rattle.esr_history.specs.ItemLocks.{ItemLocks}
use Rattle.esr_history.specs.WellFormed.{IsWellFormed}
use Rattle.esr_history.proofs.Values.{current-unchanged, committed-unchanged, current-write, current-write_other, committed-write, committed-commit, committed-commit_other, current-abort, current-abort_other, stays}
use Rattle.esr_history.proofs.WellFormed.{MayFollow, IsWellFormed-push, active_parts, update_begun}
use Rattle.esr_ledgers.specs.declared.account.Account.{Account}
use Rattle.esr_ledgers.specs.Books.{new_account, with_account}
use Rattle.esr_locks.specs.Tables.{locks_at, is_writer, with_reader, with_writer, with_query_read, released}
use Rattle.esr_core.specs.States.{end_event}
use Rattle.esr_core.specs.Represented.{Represents, books_of, Transaction}
use Rattle.esr_core.proofs.Held.{IsBegin, active-commit, active-abort, update_or_query}
use Rattle.esr_core.proofs.Rows.{rows-begin, rows-unchanged, rows-read, rows-end}
use Rattle.esr_core.proofs.Locks.{locks_at_item, writer_is, locks_of-begin, locks_of-read, locks_of-query_read, locks_of-write, locks_of-end}
use Rattle.esr_core.proofs.Accounts.{books-unchanged, books-begin}

-- a property of a commit and of an abort holds of an end
pub by : (P : Event → Type 0) (commits : Bool) (t : TxnId) → P (Commit t) → P (Abort t) → P (end_event commits t)
by P true t commit abort = commit
by P false t commit abort = abort

module _ (d : ℕ → ℤ → ℤ → ℕ) (opening : List ℤ) (events : List Event) (items : List Versions) (table : List Transaction) (locks : List ItemLocks) (accounts : List Account) (rep : Represents d opening events items table locks accounts) where
  -- an event that writes nothing and ends no transaction leaves the values
  current-agrees : (e : Event) → ((x : ℕ) (k : ℕ → Bool) → written k x e ≡ None) → ((u : ℕ) → aborts u e ≡ false) → (x : ℕ) → x < length opening → current_at items x ≡ current_value opening (events ++ e ∷ []) x
  current-agrees e isnt ends x l = rep.current x l ∙ sym (current-unchanged opening events x e (isnt x) ends)

  committed-agrees : (e : Event) → ((x : ℕ) (k : ℕ → Bool) → written k x e ≡ None) → ((u : ℕ) → commits u e ≡ false) → (x : ℕ) → x < length opening → committed_at items x ≡ committed_value opening (events ++ e ∷ []) x
  committed-agrees e isnt ends x l = rep.committed x l ∙ sym (committed-unchanged opening events x e (isnt x) ends)

  pub represents-begin : (e : Event) (b : BeginRecord) → IsBegin e b → due d opening events e ≡ [] → ((x : ℕ) (k : ℕ → Bool) → written k x e ≡ None)
      → Represents d opening (events ++ e ∷ []) items (table ++ record { kind = kind_of b.query; active = true; reads = 0 } ∷ []) locks (with_account accounts (new_account (kind_of b.query) (record { 0 = suc (length (begin_records events)) }) b.limit))
  represents-begin e b is nothing isnt = record {
    count = rep.count;
    current = current-agrees e isnt is.aborts_none;
    committed = committed-agrees e isnt is.commits_none;
    rows = rows-begin events rep.orderly e b is table rep.rows;
    locked = rep.locked ∙ sym (locks_of-begin events rep.orderly e b is (length opening));
    books = ap (λ (as' : List Account). with_account as' (new_account (kind_of b.query) (record { 0 = suc (length (begin_records events)) }) b.limit)) rep.books ∙ books-begin d opening events e b is nothing;
    orderly = IsWellFormed-push events e rep.orderly (record { active = λ t f. absurd (false≢true (sym (is.names_none t) ∙ f)); updates = λ t x f. absurd (false≢true (sym (is.writes_none t x) ∙ f)); alone = λ t x f. absurd (false≢true (sym (is.writes_none t x) ∙ f)) });
  }

  pub represents-read : (t : TxnId) (x : ItemId) → is_update events t.0 ≡ true → is_active events t.0 ≡ true → MayFollow events (Read t x) → x.0 < length opening
      → Represents d opening (events ++ Read t x ∷ []) items table (set locks x.0 (with_reader t.0 (locks_at locks x.0))) accounts
  represents-read t x update act may inside =
      let no_query : is_query events t.0 ≡ false = update_or_query events t.0 update in
      record {
        count = rep.count;
        current = current-agrees (Read t x) (λ y k. refl) (λ u. refl);
        committed = committed-agrees (Read t x) (λ y k. refl) (λ u. refl);
        rows = rows-unchanged events (Read t x) refl (λ u. refl) (λ u. refl) (λ u is. ne_eqb t.0 u (λ (f : t.0 ≡ u). false≢true (sym no_query ∙ (ap (is_query events) f ∙ is)))) table rep.rows;
        locked = ap (λ (ls : List ItemLocks). set ls x.0 (with_reader t.0 (locks_at ls x.0))) rep.locked ∙ locks_of-read events t x (length opening) inside update act;
        books = rep.books ∙ books-unchanged d opening events (Read t x) refl (rw no_query refl);
        orderly = IsWellFormed-push events (Read t x) rep.orderly may;
      }

  pub represents-query : (t : TxnId) (x : ItemId) (k : ℕ) (row : Transaction) (accounts_new : List Account) → is_query events t.0 ≡ true → is_active events t.0 ≡ true → MayFollow events (Read t x) → x.0 < length opening
      → t.0 ≡ suc k → k < length table → row ≡ get_or table k row → accounts_new ≡ books_of d opening (events ++ Read t x ∷ [])
      → Represents d opening (events ++ Read t x ∷ []) items (set table k (record row { reads = row.reads + 1 })) (set locks x.0 (with_query_read t.0 (locks_at locks x.0))) accounts_new
  represents-query t x k row accounts_new query act may inside number in_table at books = record {
    count = rep.count;
    current = current-agrees (Read t x) (λ y k. refl) (λ u. refl);
    committed = committed-agrees (Read t x) (λ y k. refl) (λ u. refl);
    rows = rows-read events (Read t x) refl k row (λ u. refl) (λ u. refl) (ap (is_query events) (sym number) ∙ query) (λ u. ap (λ n. n == u) number) table rep.rows in_table at;
    locked = ap (λ (ls : List ItemLocks). set ls x.0 (with_query_read t.0 (locks_at ls x.0))) rep.locked ∙ locks_of-query_read events t x (length opening) inside query act;
    books = books;
    orderly = IsWellFormed-push events (Read t x) rep.orderly may;
  }

  pub represents-write : (t : TxnId) (x : ItemId) (v : ℤ) (accounts_new : List Account) → is_update events t.0 ≡ true → is_active events t.0 ≡ true → MayFollow events (Write t x v) → x.0 < length opening
      → accounts_new ≡ books_of d opening (events ++ Write t x v ∷ [])
      → Represents d opening (events ++ Write t x v ∷ []) (current_set items x.0 v) table (set locks x.0 (with_writer t.0 (locks_at locks x.0))) accounts_new
  represents-write t x v accounts_new update act may inside books =
      let parts = active_parts events t.0 act in
      let orderly_then : IsWellFormed (events ++ Write t x v ∷ []) = IsWellFormed-push events (Write t x v) rep.orderly may in
      record {
        count = length-set items x.0 (record { committed = committed_at items x.0; current = v }) ∙ rep.count;
        current = λ y l. elim (cases_eq x.0 y) [
          | inl e ↦
              let here : x.0 < length items = rw rep.count inside in
              ap (current_at (current_set items x.0 v)) (sym e) ∙ (ap (λ (w : Versions). w.current) (get_or-set_same items x.0 (record { committed = committed_at items x.0; current = v }) (both_versions (pos 0)) here) ∙ sym (current-write opening events y t x v e parts.2))
          | inr ne ↦ ap (λ (w : Versions). w.current) (get_or-set_other items x.0 y (record { committed = committed_at items x.0; current = v }) (both_versions (pos 0)) (λ (f : y ≡ x.0). ne (sym f))) ∙ (rep.current y l ∙ sym (current-write_other opening events y t x v ne))
        ];
        committed = λ y l. elim (cases_eq x.0 y) [
          | inl e ↦
              let here : x.0 < length items = rw rep.count inside in
              ap (committed_at (current_set items x.0 v)) (sym e) ∙ (ap (λ (w : Versions). w.committed) (get_or-set_same items x.0 (record { committed = committed_at items x.0; current = v }) (both_versions (pos 0)) here) ∙ (ap (committed_at items) e ∙ (rep.committed y l ∙ sym (committed-write opening events y t x v parts.1))))
          | inr ne ↦ ap (λ (w : Versions). w.committed) (get_or-set_other items x.0 y (record { committed = committed_at items x.0; current = v }) (both_versions (pos 0)) (λ (f : y ≡ x.0). ne (sym f))) ∙ (rep.committed y l ∙ sym (committed-write opening events y t x v parts.1))
        ];
        rows = rows-unchanged events (Write t x v) refl (λ u. refl) (λ u. refl) (λ u is. refl) table rep.rows;
        locked = ap (λ (ls : List ItemLocks). set ls x.0 (with_writer t.0 (locks_at ls x.0))) rep.locked ∙ locks_of-write events t x v (length opening) inside orderly_then update act;
        books = books;
        orderly = orderly_then;
      }

  -- the transactions that have written an item, by the locks
  pub writes_here : (t x : ℕ) → x < length opening → is_writer (locks_at locks x) t ≡ (is_update events t && holds_write events t x)
  writes_here t x l = ap (λ (ls : List ItemLocks). is_writer (locks_at ls x) t) rep.locked ∙ (ap (λ (g : ItemLocks). is_writer g t) (locks_at_item events (length opening) x l) ∙ writer_is events rep.orderly x t)

  holds : (t x : ℕ) → x < length opening → is_writer (locks_at locks x) t ≡ true → holds_write events t x ≡ true
  holds t x l is = (and_parts (is_update events t) (holds_write events t x) (sym (writes_here t x l) ∙ is)).1

  -- an active transaction without a write lock at an item wrote nothing there
  wrote_nothing : (t x : ℕ) → x < length opening → is_active events t ≡ true → is_writer (locks_at locks x) t ≡ false → list_any (writes t x) events ≡ false
  wrote_nothing t x l act none = false_from_ne_true (list_any (writes t x) events) (λ did.
      let u : is_update events t ≡ true = rep.orderly.writers t x did in
      false≢true (sym none ∙ (writes_here t x l ∙ and_from (is_update events t) (holds_write events t x) u (and_from (is_active events t) (list_any (writes t x) events) act did))))

  -- apart from the last writer, which is active, each transaction that wrote an item has ended once
  others_ended : (t x : ℕ) → x < length opening → is_writer (locks_at locks x) t ≡ true → (u : ℕ) → list_any (writes u x) events ≡ true → (t ≡ u → ⊥) → stays events u ≡ is_committed events u
  others_ended t x l has u did other =
      ended (is_committed events u) (is_aborted events u) (rep.orderly.once u)
      (sym (ap (λ b. b && (not (is_committed events u) && not (is_aborted events u))) (update_begun events u (rep.orderly.writers u x did)))
      ∙ false_from_ne_true (is_active events u) (λ act_u. other (same_Some t u (
      sym (rep.orderly.exclusive t x (holds t x l has)) ∙ rep.orderly.exclusive u x (and_from (is_active events u) (list_any (writes u x) events) act_u did)))))
    where
      ended : (c a : Bool) → (c ≡ true → a ≡ false) → (not c && not a) ≡ false → not a ≡ c
      ended true a once off = ap not (once refl)
      ended false true once off = refl
      ended false false once off = absurd (false≢true (sym off))

  pub represents-end : (commits : Bool) (t : TxnId) (k : ℕ) (row : Transaction) (new : List Versions) → is_active events t.0 ≡ true → MayFollow events (end_event commits t)
      → t.0 ≡ suc k → k < length table → row ≡ get_or table k row
      → length new ≡ length items
      → ((x : ℕ) → x < length items → current_at new x ≡ (if not commits && is_writer (locks_at locks x) t.0 then committed_at items x else current_at items x))
      → ((x : ℕ) → x < length items → committed_at new x ≡ (if commits && is_writer (locks_at locks x) t.0 then current_at items x else committed_at items x))
      → Represents d opening (events ++ end_event commits t ∷ []) new (set table k (record row { active = false })) (map (released t.0) locks) accounts
  represents-end commits t k row new act may number in_table at long current_is committed_is = record {
    count = long ∙ rep.count;
    current = λ x l. current_is x (rw rep.count l) ∙ current-end commits x l;
    committed = λ x l. committed_is x (rw rep.count l) ∙ committed-end commits x l;
    rows = rows-end events (end_event commits t) begins k row (λ u. rw (sym number) (ends u)) (λ u. by (λ e. reads_any u e ≡ false) commits t refl refl) table rep.rows in_table at;
    locked = ap (map (released t.0)) rep.locked ∙ locks_of-end events rep.orderly (end_event commits t) begins t.0 ends (λ u x. by (λ e. reads u x e ≡ false) commits t refl refl) (λ u x. by (λ e. writes u x e ≡ false) commits t refl refl) (length opening);
    books = rep.books ∙ books-unchanged d opening events (end_event commits t) begins (by (λ e. due d opening events e ≡ []) commits t refl refl);
    orderly = IsWellFormed-push events (end_event commits t) rep.orderly may;
  }
    where
      begins : begin_record_of (end_event commits t) ≡ None
      begins = by (λ e. begin_record_of e ≡ None) commits t refl refl

      ends : (u : ℕ) → is_active (events ++ end_event commits t ∷ []) u ≡ (is_active events u && not (t.0 == u))
      ends u = by (λ e. is_active (events ++ e ∷ []) u ≡ (is_active events u && not (t.0 == u))) commits t (active-commit events t u) (active-abort events t u)

      parts : (is_begun events t.0 ≡ true) × (is_committed events t.0 ≡ false) × (is_aborted events t.0 ≡ false)
      parts = active_parts events t.0 act

      current-end : (commits : Bool) (x : ℕ) → x < length opening → (if not commits && is_writer (locks_at locks x) t.0 then committed_at items x else current_at items x) ≡ current_value opening (events ++ end_event commits t ∷ []) x
      current-end true x l = rep.current x l ∙ sym (current-unchanged opening events x (Commit t) (λ w. refl) (λ u. refl))
      current-end false x l = elim (cases_Bool (is_writer (locks_at locks x) t.0)) [
        | inl has ↦ rw has (rep.committed x l ∙ sym (current-abort opening events x t parts.1 (others_ended t.0 x l has)))
        | inr none ↦ rw none (rep.current x l ∙ sym (current-abort_other opening events x t (wrote_nothing t.0 x l act none)))
      ]

      committed-end : (commits : Bool) (x : ℕ) → x < length opening → (if commits && is_writer (locks_at locks x) t.0 then current_at items x else committed_at items x) ≡ committed_value opening (events ++ end_event commits t ∷ []) x
      committed-end true x l = elim (cases_Bool (is_writer (locks_at locks x) t.0)) [
        | inl has ↦ rw has (rep.current x l ∙ sym (committed-commit opening events x t (rep.orderly.exclusive t.0 x (holds t.0 x l has)) parts.2))
        | inr none ↦ rw none (rep.committed x l ∙ sym (committed-commit_other opening events x t (wrote_nothing t.0 x l act none)))
      ]
      committed-end false x l = rep.committed x l ∙ sym (committed-unchanged opening events x (Abort t) (λ w. refl) (λ u. refl))
