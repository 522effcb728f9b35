-- Worked examples: the machine's replies, charges and locks on some lists of events.
use Rattle.std.specs.Prelude.{◌≡◌, ℕ, ℤ, pos, List, [], ◌∷◌, true, false, refl, map, None, Some}
use Rattle.esr_items.specs.Values.{gap}
use Rattle.esr_history.specs.Events.{TxnId, ItemId, Event, BeginUpdate, BeginQuery, Read, Write, Commit, Abort, Reply, Begun, Value, Wrote, Committed, Aborted, Refused, NoSuchTransaction, AlreadyEnded, NoSuchItem, QueryMayNotWrite, ValueOutOfRange, LimitOutOfRange, BlockedByLock, BlockedByImport, BlockedByExport}
use Rattle.esr_history.specs.Machine.{Schedule, DistanceFunction, schedule_of, extended, reply_to, charges_in, total, import_in, export_in, accepted_in}
use Rattle.esr_history.specs.ItemLocks.{item_locks}
use Rattle.esr_history.specs.BackLinks.{facts_of}

abbrev pub plain : DistanceFunction
plain w x a b = gap a b

-- a history of items with these opening values, before its first entry
abbrev pub started_from : List ℤ → Schedule
started_from values = schedule_of values [] []

-- the history after the machine has answered the events
abbrev pub played : Schedule → List Event → Schedule
played h [] = h
played h (e ∷ events) = played (extended h e (reply_to plain h e)) events

abbrev pub replies : Schedule → List Reply
replies h = map (λ e. e.reply) h.entries

abbrev pub txn : ℕ → TxnId
txn t = record { 0 = t }

abbrev pub item : ℕ → ItemId
item x = record { 0 = x }

-- a query reads a value that an active update has written, within its limit
abbrev report_concurrent_with_writer : Schedule
report_concurrent_with_writer =
    played (started_from (pos 100 ∷ []))
    (BeginUpdate 50 ∷ BeginQuery 10 false ∷ Write (txn 1) (item 0) (pos 107) ∷ Read (txn 2) (item 0)
    ∷ Commit (txn 1) ∷ Commit (txn 2) ∷ [])

report_concurrent_with_writer_replies : replies report_concurrent_with_writer
    ≡ Begun (txn 1) ∷ Begun (txn 2) ∷ Wrote ∷ Value (pos 107) ∷ Committed ∷ Committed ∷ []
report_concurrent_with_writer_replies = refl

report_concurrent_with_writer_import : import_in (charges_in plain report_concurrent_with_writer) 2 ≡ 7
report_concurrent_with_writer_import = refl

report_concurrent_with_writer_export : export_in (charges_in plain report_concurrent_with_writer) 1 ≡ 7
report_concurrent_with_writer_export = refl

-- a read that would pass the query's limit leaves no charge, and is refused each time
abbrev import_limit_reached : ℕ → Schedule
import_limit_reached limit =
    played (started_from (pos 100 ∷ []))
    (BeginUpdate 50 ∷ BeginQuery limit false ∷ Write (txn 1) (item 0) (pos 107) ∷ Read (txn 2) (item 0)
    ∷ Read (txn 2) (item 0) ∷ [])

import_limit_reached_low : replies (import_limit_reached 6)
    ≡ Begun (txn 1) ∷ Begun (txn 2) ∷ Wrote ∷ Refused (BlockedByImport (txn 2)) ∷ Refused (BlockedByImport (txn 2)) ∷ []
import_limit_reached_low = refl

import_limit_reached_high : replies (import_limit_reached 7)
    ≡ Begun (txn 1) ∷ Begun (txn 2) ∷ Wrote ∷ Value (pos 107) ∷ Refused (BlockedByImport (txn 2)) ∷ []
import_limit_reached_high = refl

import_limit_reached_total : total (charges_in plain (import_limit_reached 7)) ≡ 7
import_limit_reached_total = refl

-- a write is charged for each read of each query, and the update's limit bounds their sum
abbrev export_limit_covers_all_queries : Schedule
export_limit_covers_all_queries =
    played (started_from (pos 0 ∷ []))
    (BeginQuery 10 false ∷ BeginQuery 5 false ∷ BeginUpdate 14 ∷ BeginUpdate 15 ∷ Read (txn 1) (item 0)
    ∷ Read (txn 1) (item 0) ∷ Read (txn 2) (item 0) ∷ Write (txn 3) (item 0) (pos 5)
    ∷ Write (txn 4) (item 0) (pos 5) ∷ [])

export_limit_over_queries_replies : replies export_limit_covers_all_queries
    ≡ Begun (txn 1) ∷ Begun (txn 2) ∷ Begun (txn 3) ∷ Begun (txn 4) ∷ Value (pos 0) ∷ Value (pos 0) ∷ Value (pos 0)
    ∷ Refused (BlockedByExport (txn 3)) ∷ Wrote ∷ []
export_limit_over_queries_replies = refl

export_limit_over_queries_total : total (charges_in plain export_limit_covers_all_queries) ≡ 15
export_limit_over_queries_total = refl

-- a write is charged against a read before it
abbrev smaller_of_two_sets : Schedule
smaller_of_two_sets =
    played (started_from (pos 0 ∷ []))
    (BeginQuery 9 false ∷ BeginUpdate 4 ∷ Read (txn 1) (item 0) ∷ Write (txn 2) (item 0) (pos 4) ∷ Commit (txn 2)
    ∷ Read (txn 1) (item 0) ∷ Commit (txn 1) ∷ [])

smaller_of_two_sets_replies : replies smaller_of_two_sets
    ≡ Begun (txn 1) ∷ Begun (txn 2) ∷ Value (pos 0) ∷ Wrote ∷ Committed ∷ Value (pos 4) ∷ Committed ∷ []
smaller_of_two_sets_replies = refl

smaller_of_two_sets_import : import_in (charges_in plain smaller_of_two_sets) 1 ≡ 4
smaller_of_two_sets_import = refl

-- a lock is held to the end of its transaction
abbrev upgrade_is_blocked_by_a_reader : Schedule
upgrade_is_blocked_by_a_reader =
    played (started_from (pos 0 ∷ []))
    (BeginUpdate 0 ∷ BeginUpdate 0 ∷ Read (txn 1) (item 0) ∷ Read (txn 2) (item 0) ∷ Write (txn 1) (item 0) (pos 1)
    ∷ Commit (txn 2) ∷ Write (txn 1) (item 0) (pos 1) ∷ Commit (txn 1) ∷ [])

upgrade_is_blocked_by_a_reader_replies : replies upgrade_is_blocked_by_a_reader
    ≡ Begun (txn 1) ∷ Begun (txn 2) ∷ Value (pos 0) ∷ Value (pos 0) ∷ Refused (BlockedByLock (txn 2)) ∷ Committed
    ∷ Wrote ∷ Committed ∷ []
upgrade_is_blocked_by_a_reader_replies = refl

-- each refusal by its name
abbrev every_refusal_in_order : Schedule
every_refusal_in_order =
    played (started_from (pos 0 ∷ [])) (
    BeginQuery 0 false ∷ BeginUpdate 0 ∷ BeginUpdate 1000000000000000001 ∷ Read (txn 0) (item 0)
    ∷ Write (txn 0) (item 1) (pos 1) ∷ Read (txn 1) (item 1) ∷ Write (txn 1) (item 1) (pos 1)
    ∷ Write (txn 1) (item 0) (pos 1000000000001) ∷ Write (txn 2) (item 0) (pos 1000000000001) ∷ Commit (txn 2)
    ∷ Read (txn 2) (item 1) ∷ Commit (txn 3) ∷ [])

every_refusal_in_order_replies : replies every_refusal_in_order
    ≡ Begun (txn 1) ∷ Begun (txn 2) ∷ Refused LimitOutOfRange ∷ Refused NoSuchTransaction ∷ Refused NoSuchTransaction
    ∷ Refused NoSuchItem ∷ Refused NoSuchItem ∷ Refused QueryMayNotWrite ∷ Refused ValueOutOfRange ∷ Committed
    ∷ Refused AlreadyEnded ∷ Refused NoSuchTransaction ∷ []
every_refusal_in_order_replies = refl

-- an abort puts the value back
abbrev abort_rolls_back : Schedule
abort_rolls_back =
    played (started_from (pos 1 ∷ []))
    (BeginUpdate 0 ∷ Write (txn 1) (item 0) (pos 5) ∷ Abort (txn 1) ∷ BeginUpdate 0 ∷ Read (txn 2) (item 0) ∷ [])

abort_puts_back_replies : replies abort_rolls_back ≡ Begun (txn 1) ∷ Wrote ∷ Aborted ∷ Begun (txn 2) ∷ Value (pos 1) ∷ []
abort_puts_back_replies = refl

export_limit_over_queries_locks : item_locks (accepted_in export_limit_covers_all_queries) 0
    ≡ record { writer = Some 4; readers = []; queries = (1, 2) ∷ (2, 1) ∷ [] }
export_limit_over_queries_locks = refl

export_limit_over_queries_imports :
    map (import_in (charges_in plain export_limit_covers_all_queries)) (1 ∷ 2 ∷ []) ≡ 10 ∷ 5 ∷ []
export_limit_over_queries_imports = refl

export_limit_over_queries_exports :
    map (export_in (charges_in plain export_limit_covers_all_queries)) (3 ∷ 4 ∷ []) ≡ 0 ∷ 15 ∷ []
export_limit_over_queries_exports = refl

-- how and where transactions begin and end: a refused begin begins none, and the first entry has index 0
abbrev strict_query_after_refused_begin : Schedule
strict_query_after_refused_begin =
    played (started_from (pos 0 ∷ []))
    (BeginUpdate 4 ∷ BeginUpdate 1000000000000000001 ∷ BeginQuery 9 true ∷ Read (txn 2) (item 0) ∷ Commit (txn 2) ∷ [])

strict_query_after_refused_begin_update : facts_of strict_query_after_refused_begin.entries 1
    ≡ Some (record { query = false; strict = false; limit = 4; begin = 0; end = None })
strict_query_after_refused_begin_update = refl

strict_query_after_refused_begin_query : facts_of strict_query_after_refused_begin.entries 2
    ≡ Some (record { query = true; strict = true; limit = 9; begin = 2; end = Some 4 })
strict_query_after_refused_begin_query = refl

strict_query_after_refused_begin_none : facts_of strict_query_after_refused_begin.entries 3 ≡ None
strict_query_after_refused_begin_none = refl

-- whether a query is strict changes no reply to its begin
strict_ignored : (h : Schedule) (limit : ℕ)
    → reply_to plain h (BeginQuery limit true) ≡ reply_to plain h (BeginQuery limit false)
strict_ignored h limit = refl
