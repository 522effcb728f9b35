-- The locks on items: their holders, and the effect of one more lock and of a release.
use Rattle.std.specs.Prelude.{ℕ, ◌+◌, List, [], Bool, false, not, ◌&&◌, ◌||◌, ◌==◌, Option, None, Some, unwrap_or, filter, slice_index_or, slice_index, min, if◌then◌else◌, option_map}
use Rattle.std.specs.List.{list_any}
use Rattle.esr_base.specs.declared.numbers.ItemId.{ItemId}
use Rattle.esr_history.specs.declared.event.BeginKind.{BeginKind}
use Rattle.esr_history.specs.declared.event.BeginKind.TheVariants.{Query, Update}
use Rattle.esr_history.specs.ItemLocks.{ItemLocks}
use Rattle.esr_history.specs.Ascending.{upserted}
use Rattle.esr_locks.specs.Modes.{Mode, Read, Write, conflicts}

-- a lock table as contracts see it: the locks on each item, the capacity left for locks on each item, and the
-- capacity left in each transaction's list of items
pub record LockTableModel : Type 0 where
  pub locks : List ItemLocks
  pub spare_by_item : List ℕ
  pub spare_by_transaction : List ℕ

-- the capacity left in the list of items of transaction t, which is all that a write lock needs
abbrev pub spare_list_capacity : LockTableModel → ℕ → ℕ
spare_list_capacity table t = slice_index table.spare_by_transaction t

-- the capacity left for locks of transaction t on item x
abbrev pub spare_lock_capacity : LockTableModel → ℕ → ℕ → ℕ
spare_lock_capacity table t x = min (slice_index table.spare_by_item x) (spare_list_capacity table t)

-- an item that no transaction has locked
abbrev pub no_locks : ItemLocks
no_locks = record { writer = None; readers = []; queries = [] }

abbrev pub locks_at : List ItemLocks → ℕ → ItemLocks
locks_at locks x = slice_index_or locks x no_locks

-- whether transaction t has written the item, has read it as an update, has done one of these, or has read it as a
-- query
abbrev pub is_writer : ItemLocks → ℕ → Bool
is_writer l t = unwrap_or (option_map (λ u. u == t) l.writer) false

abbrev pub is_reader : ItemLocks → ℕ → Bool
is_reader l t = list_any (λ u. u == t) l.readers

abbrev pub has_update_lock : ItemLocks → ℕ → Bool
has_update_lock l t = is_writer l t || is_reader l t

abbrev pub has_query_lock : ItemLocks → ℕ → Bool
has_query_lock l t = list_any (λ r. r.0 == t) l.queries

abbrev pub has_lock : ItemLocks → ℕ → Bool
has_lock l t = is_writer l t || (is_reader l t || has_query_lock l t)

-- whether update u keeps transaction t from locking the item in a mode: it is another, and has a lock that conflicts
abbrev pub blocks : Mode → ItemLocks → ℕ → ℕ → Bool
blocks asked l t u =
    not (u == t) && ((conflicts Read asked && is_reader l u) || (conflicts Write asked && is_writer l u))

-- whether update u keeps transaction t, as an update, from reading the item, and from writing it
abbrev pub blocks_read : ItemLocks → ℕ → ℕ → Bool
blocks_read = blocks Read

abbrev pub blocks_write : ItemLocks → ℕ → ℕ → Bool
blocks_write = blocks Write

-- the locks with one more: a read by an update, a write, a read by a query
abbrev pub with_reader : ℕ → ItemLocks → ItemLocks
with_reader t l = record l { readers = upserted (λ u. u) t t (λ u. u) l.readers }

abbrev pub with_writer : ℕ → ItemLocks → ItemLocks
with_writer t l = record l { writer = Some t }

abbrev pub with_query_read : ℕ → ItemLocks → ItemLocks
with_query_read q l = record l { queries = upserted (λ r. r.0) q (q, 1) (λ r. (r.0, r.1 + 1)) l.queries }

-- the locks after transaction t has released its own
abbrev pub released : ℕ → ItemLocks → ItemLocks
released t l = record {
  writer = if is_writer l t then None else l.writer;
  readers = filter (λ u. not (u == t)) l.readers;
  queries = filter (λ r. not (r.0 == t)) l.queries;
}

-- the locks after transaction t has released those of an update, and those of a query
abbrev pub released_update : ℕ → ItemLocks → ItemLocks
released_update t l = record l {
  writer = if is_writer l t then None else l.writer;
  readers = filter (λ u. not (u == t)) l.readers;
}

abbrev pub released_query : ℕ → ItemLocks → ItemLocks
released_query t l = record l { queries = filter (λ r. not (r.0 == t)) l.queries }

-- whether transaction t has a lock on the item that its kind does not take: a query that of an update, an update that
-- of a query
abbrev pub has_lock_unlike : BeginKind → ItemLocks → ℕ → Bool
has_lock_unlike Query l t = has_update_lock l t
has_lock_unlike Update l t = has_query_lock l t

-- whether it has a lock that its kind does not take, if the kind is known
abbrev pub has_other_lock : Option BeginKind → ItemLocks → ℕ → Bool
has_other_lock None l t = false
has_other_lock (Some kind) l t = has_lock_unlike kind l t

-- whether an item is among those listed
abbrev pub contains_item : List ItemId → ℕ → Bool
contains_item items x = list_any (λ i. i.0 == x) items
