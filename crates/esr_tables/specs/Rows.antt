-- The rows of a ledger: a history's data about each transaction.
use Rattle.std.specs.Prelude.{ℕ, ◌-◌, ◌&&◌, List, Bool, true, false, map, count_by, if◌then◌else◌}
use Rattle.esr_history.specs.declared.event.Reply.{Reply}
use Rattle.esr_history.specs.declared.event.Entry.{Entry}
use Rattle.esr_history.specs.declared.event.Reply.TheVariants.{Value, Wrote, Refused}
use Rattle.esr_history.specs.declared.event.Refusal.TheVariants.{BlockedByLock, BlockedByImport, BlockedByExport}
use Rattle.esr_history.specs.Events.{txn_numbers, limit_of, is_query}
use Rattle.esr_history.specs.Machine.{DistanceFunction, Schedule, accepted_in, charges_in, import_in, export_in}
use Rattle.esr_history.specs.BackLinks.{txn_in, is_some_eq}
use Rattle.esr_history.specs.Outcomes.{outcome_of}
use Rattle.esr_outcomes.specs.Outcomes.{distance_of, kind_of_txn}
use Rattle.esr_tables.specs.declared.rows.Row.{Row}
use Rattle.esr_tables.specs.declared.tallies.Tally.{Tally}

-- ---- the counts of its lines, by their replies

-- an accepted read, an accepted write
abbrev pub is_accepted_read : Reply → Bool
is_accepted_read (Value v) = true
is_accepted_read _ = false

abbrev pub is_accepted_write : Reply → Bool
is_accepted_write Wrote = true
is_accepted_write _ = false

-- blocked replies, by the reason
abbrev pub is_blocked_by_lock : Reply → Bool
is_blocked_by_lock (Refused (BlockedByLock u)) = true
is_blocked_by_lock _ = false

abbrev pub is_blocked_by_import : Reply → Bool
is_blocked_by_import (Refused (BlockedByImport q)) = true
is_blocked_by_import _ = false

abbrev pub is_blocked_by_export : Reply → Bool
is_blocked_by_export (Refused (BlockedByExport u)) = true
is_blocked_by_export _ = false

-- the number of entries of t with such a reply
abbrev pub count_of_replies : (Reply → Bool) → List Entry → ℕ → ℕ
count_of_replies p es t = count_by (λ e. is_some_eq (txn_in e) t && p e.reply) es

abbrev pub tally_of : List Entry → ℕ → Tally
tally_of es t = record {
  reads = count_of_replies is_accepted_read es t;
  writes = count_of_replies is_accepted_write es t;
  blocked_by_lock = count_of_replies is_blocked_by_lock es t;
  blocked_by_import = count_of_replies is_blocked_by_import es t;
  blocked_by_export = count_of_replies is_blocked_by_export es t;
}

-- ---- amounts

-- the import of a query, or the export of an update
abbrev pub import_or_export : DistanceFunction → Schedule → ℕ → ℕ
import_or_export d h t = if is_query (accepted_in h) t then import_in (charges_in d h) t else export_in (charges_in d h) t

-- ---- the whole

abbrev pub row_of : DistanceFunction → Schedule → ℕ → Row
row_of d h t = record {
  number = record { 0 = t };
  kind = kind_of_txn h t;
  limit = limit_of (accepted_in h) t;
  charged = import_or_export d h t;
  left = limit_of (accepted_in h) t - import_or_export d h t;
  tally = tally_of h.entries t;
  outcome = outcome_of (accepted_in h) t;
  distance = distance_of d h t;
}

-- a row for each transaction, in the order of their numbers
abbrev pub rows_of : DistanceFunction → Schedule → List Row
rows_of d h = map (row_of d h) (txn_numbers (accepted_in h))
