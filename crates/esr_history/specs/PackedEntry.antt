-- Entries in 16 bytes.
use Rattle.std.specs.Prelude.{ℕ, ◌<◌, List, length, ⊤, slice_index_or}
use Rattle.esr_history.specs.Events.{ItemId, TxnId, BeginUpdate, BeginQuery, Read, Write, Commit, Abort, Reply, Begun, Value, Wrote, Committed, Aborted, Refused, BlockedByLock, BlockedByImport, BlockedByExport, Entry}
use Rattle.esr_history.specs.declared.packed_entry.BlockReason.{BlockReason}
use Rattle.esr_history.specs.declared.packed_entry.BlockReason.TheVariants.{Lock, Import, Export}
use Rattle.esr_history.specs.declared.packed_entry.PackedEntry.{PackedEntry}
use Rattle.esr_history.specs.declared.packed_entry.PackedEntry.TheVariants.{UpdateBegun, QueryBegun, WasRead, WasWritten, HasCommitted, HasAborted, ReadBlocked, WriteBlocked, Long}

abbrev pub txn_id : ℕ → TxnId
txn_id t = record { 0 = t }

abbrev pub item_id : ℕ → ItemId
item_id x = record { 0 = x }

-- the reply for a blocked event
abbrev pub blocked : BlockReason → ℕ → Reply
blocked Lock other = Refused (BlockedByLock (txn_id other))
blocked Import other = Refused (BlockedByImport (txn_id other))
blocked Export other = Refused (BlockedByExport (txn_id other))

-- no entry has this form
abbrev pub no_entry : Entry
no_entry = record { event = Abort (txn_id 0); reply = Aborted }

-- the entry of a packed form, given the list of those that have none
abbrev pub unpacked : List Entry → PackedEntry → Entry
unpacked long (UpdateBegun t limit) = record { event = BeginUpdate limit; reply = Begun (txn_id t) }
unpacked long (QueryBegun strict t limit) = record { event = BeginQuery limit strict; reply = Begun (txn_id t) }
unpacked long (WasRead t x value) = record { event = Read (txn_id t) (item_id x); reply = Value value }
unpacked long (WasWritten t x value) = record { event = Write (txn_id t) (item_id x) value; reply = Wrote }
unpacked long (HasCommitted t) = record { event = Commit (txn_id t); reply = Committed }
unpacked long (HasAborted t) = record { event = Abort (txn_id t); reply = Aborted }
unpacked long (ReadBlocked reason t x other) = record { event = Read (txn_id t) (item_id x); reply = blocked reason other }
unpacked long (WriteBlocked reason t x other value) =
    record { event = Write (txn_id t) (item_id x) value; reply = blocked reason other }
unpacked long (Long place) = slice_index_or long place no_entry

-- a place in the list is one that it has
abbrev pub IsWithin : List Entry → PackedEntry → Type 0
IsWithin long (Long place) = place < length long
IsWithin long s = ⊤
