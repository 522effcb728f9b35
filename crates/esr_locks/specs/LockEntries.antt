-- The entry of an item in the lock table.
use Rattle.std.specs.Prelude.{◌≡◌, ℕ, Bool, ◌+◌, ◌<◌, ◌≤◌, List, [], length, true, All, slice_index_or, Result, OnOk, OnErr, min}
use Rattle.smallvec.specs.SmallVec.{SmallVec, HasRoomFor}
use Rattle.esr_base.specs.declared.numbers.ItemId.{ItemId}
use Rattle.esr_base.specs.declared.numbers.TxnId.{TxnId}
use Rattle.esr_history.specs.ItemLocks.{ItemLocks}
use Rattle.esr_locks.specs.declared.lists.Reader.{Reader}
use Rattle.esr_locks.specs.declared.lists.QueryReads.{QueryReads}
use Rattle.esr_locks.specs.Modes.{Mode, Read, Write, QueryRead}
use Rattle.esr_locks.specs.Tables.{no_locks, has_lock, has_update_lock, has_query_lock, with_reader, with_writer, with_query_read, contains_item}

-- the model of an entry: the locks, and the capacity left for more readers and for more queries
pub record LockEntryModel : Type 0 where
  pub locks : ItemLocks
  pub spare_readers : ℕ
  pub spare_queries : ℕ

-- the capacity left for locks in any mode
abbrev pub spare_of : LockEntryModel → ℕ
spare_of r = min r.spare_readers r.spare_queries

-- the effect of reserving capacity for one more element of a list
pub record Reserves {T A E : Type 0} (old new : SmallVec T) (result : Result A E) : Type 0 where
  pub items : new.items ≡ old.items
  pub capacity : old.capacity ≤ new.capacity
  pub ok : OnOk result (HasRoomFor new 1)
  pub no_capacity : OnErr result (¬ HasRoomFor old 1)
  pub err : OnErr result (new ≡ old)

-- an update as a reader
abbrev pub reader : TxnId → Reader
reader t = record { update = t }

-- a query with its count of reads
abbrev pub query_and_count : QueryReads → ℕ × ℕ
query_and_count r = (r.query.0, r.count)

-- a query's first read, and one more
abbrev pub first_reads : TxnId → QueryReads
first_reads q = record { query = q; count = 1 }

abbrev pub more_reads : QueryReads → QueryReads
more_reads r = record r { count = r.count + 1 }

-- the locks of an item with one more, and whether a transaction holds such a lock: an update's read and write count
-- alike
abbrev pub with_lock : Mode → ℕ → ItemLocks → ItemLocks
with_lock Read = with_reader
with_lock Write = with_writer
with_lock QueryRead = with_query_read

abbrev pub has_lock_in_mode : Mode → ItemLocks → ℕ → Bool
has_lock_in_mode Read = has_update_lock
has_lock_in_mode Write = has_update_lock
has_lock_in_mode QueryRead = has_query_lock

-- the items that a transaction has locked, as contracts see them: the items, and the capacity left for more
pub record LockedItemsModel : Type 0 where
  pub items : List ItemId
  pub spare_capacity : ℕ

abbrev pub empty_list : LockedItemsModel
empty_list = record { items = []; spare_capacity = 0 }

abbrev pub empty_entry : LockEntryModel
empty_entry = record { locks = no_locks; spare_readers = 0; spare_queries = 0 }

abbrev pub entry_at : List LockEntryModel → ℕ → LockEntryModel
entry_at entries x = slice_index_or entries x empty_entry

abbrev pub items_locked_by : List LockedItemsModel → ℕ → LockedItemsModel
items_locked_by by_transaction t = slice_index_or by_transaction t empty_list

-- the items listed for a transaction are those on which it holds a lock, and perhaps more
pub record IsLockTable (entries : List LockEntryModel) (by_transaction : List LockedItemsModel) : Type 0 where
  pub within : (t : ℕ) → All (λ i. i.0 < length entries) (items_locked_by by_transaction t).items
  pub listed : (t x : ℕ) → x < length entries → has_lock (entry_at entries x).locks t ≡ true
      → contains_item (items_locked_by by_transaction t).items x ≡ true
