-- The contributions of single entries to the columns of a ledger.
use Rattle.std.specs.Prelude.{◌≡◌, ℕ, ◌+◌, ◌<◌, ◌^◌, List, map, length, slice_index_or}
use Rattle.std.specs.List.{range_with_len}
use Rattle.esr_history.specs.declared.event.Reply.{Reply}
use Rattle.esr_history.specs.declared.event.Entry.{Entry}
use Rattle.esr_history.specs.declared.event.Reply.TheVariants.{Value, Wrote, Refused}
use Rattle.esr_history.specs.declared.event.Refusal.TheVariants.{BlockedByLock, BlockedByImport, BlockedByExport}
use Rattle.esr_history.specs.Machine.{Schedule, charges_in, export_in}
use Rattle.esr_history.specs.BackLinks.{begun_count}
use Rattle.esr_items.specs.Weights.{weighted}
use Rattle.esr_tables.specs.declared.rows.Columns.{Columns}
use Rattle.esr_tables.specs.declared.tallies.Tally.{Tally}
use Rattle.esr_tables.specs.Rows.{tally_of}

-- a tally with one more reply
abbrev pub with_reply : Tally → Reply → Tally
with_reply t (Value v) = record t { reads = t.reads + 1 }
with_reply t Wrote = record t { writes = t.writes + 1 }
with_reply t (Refused (BlockedByLock u)) = record t { blocked_by_lock = t.blocked_by_lock + 1 }
with_reply t (Refused (BlockedByImport q)) = record t { blocked_by_import = t.blocked_by_import + 1 }
with_reply t (Refused (BlockedByExport u)) = record t { blocked_by_export = t.blocked_by_export + 1 }
with_reply t _ = t

-- one more of each can be counted
pub record IsCountable (t : Tally) : Type 0 where
  pub reads : t.reads + 1 < 2 ^ 64
  pub writes : t.writes + 1 < 2 ^ 64
  pub blocked_by_lock : t.blocked_by_lock + 1 < 2 ^ 64
  pub blocked_by_import : t.blocked_by_import + 1 < 2 ^ 64
  pub blocked_by_export : t.blocked_by_export + 1 < 2 ^ 64

-- the tallies, by the numbers of transactions
abbrev pub AreTallies : List Entry → List Tally → Type 0
AreTallies es tallies = (t : ℕ) → t < length tallies → (d : Tally) → slice_index_or tallies t d ≡ tally_of es t

-- the columns of all transactions
pub record AreColumns (h : Schedule) (c : Columns) : Type 0 where
  pub many : begun_count h.entries < length c.tallies.items
  pub tallies : AreTallies h.entries c.tallies.items
  pub exports : c.exports.items ≡ map (export_in (charges_in weighted h)) (range_with_len 0 (begun_count h.entries + 1))
