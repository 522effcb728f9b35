-- Continuing from the committed values of a history with the transactions that are active in it.
use Rattle.std.specs.Prelude.{◌≡◌, ◌+◌, ◌-◌, ◌≤◌, ◌==◌, ℕ, ℤ, true, not, ◌&&◌, IsTrue, List, ◌∷◌, ◌++◌, Option, None, Some, filter, filter_map, flat_map, length, map, count_by, nat_lt, if◌then◌else◌}
use Rattle.esr_core.specs.Types.{ItemId, TxnId, Event, Read, Write, Reply, Begun, Value, Entry}
use Rattle.esr_core.specs.States.{begin_event}
use Rattle.esr_core.specs.Renewed.{committed_values, renewed}
use Rattle.esr_history.specs.Events.{is_refusal, txn_numbers, is_active, is_query, is_update, holds_read, holds_write, read_count, limit_of, accepted, written, last_value, committed_value, current_value}
use Rattle.esr_history.specs.Machine.{DistanceFunction, Schedule, Charge, accepted_in, value_distance, charges_in, charge_of_read, import_in, export_in, writer, IsLegal}
use Rattle.esr_history.specs.Legal.{continued}
use Rattle.esr_history.specs.Operations.{Operation}
use Rattle.esr_history.specs.Serial.{state}
use Rattle.esr_history.specs.Queries.{is_strict, is_committed_query, updates_committed_before, reads_by}
use Rattle.esr_history.specs.ReportBounds.{AreDistances, is_active_query, IsMixture, ImportBoundsActive, OpenIsImported, distance_of_reads, reads_in}

-- the active transactions, ascending, and the number that each has then: its place among them, from 1
abbrev pub active_numbers : Schedule → List ℕ
active_numbers h = filter (is_active (accepted_in h)) (txn_numbers (accepted_in h))

abbrev pub new_number : Schedule → ℕ → TxnId
new_number h t = record { 0 = count_by (λ u. nat_lt u t) (active_numbers h) + 1 }

-- The charges of a transaction come from conflicts. A conflict is open while both transactions are active: the query
-- would be charged again, by the distance of the current and the committed value, if it repeated its read now.
abbrev pub open_charges_of : DistanceFunction → Schedule → ℕ → List Charge
open_charges_of d h q =
    flat_map (λ o. charge_of_read (value_distance d h) h.opening (accepted_in h) q o.item (writer (accepted_in h) o.item)) (reads_by h q)

abbrev pub open_charges : DistanceFunction → Schedule → List Charge
open_charges d h = flat_map (open_charges_of d h) (filter (is_query (accepted_in h)) (active_numbers h))

-- an import of a query, or an export of an update
abbrev pub charged_in : Schedule → List Charge → ℕ → ℕ
charged_in h cs t = if is_query (accepted_in h) t then import_in cs t else export_in cs t

-- the settled charges: those that are not open
abbrev pub settled : DistanceFunction → Schedule → ℕ → ℕ
settled d h t = charged_in h (charges_in d h) t - charged_in h (open_charges d h) t

-- Each active transaction begins again, with its limit minus its settled charges.
abbrev pub carried_begin : DistanceFunction → Schedule → ℕ → Entry
carried_begin d h t = record {
  event = begin_event (is_query (accepted_in h) t) (limit_of (accepted_in h) t - settled d h t) (is_strict (accepted_in h) t);
  reply = Begun (new_number h t);
}

-- Then each accepted read and write of an active update, with the reply that it had.
abbrev pub carried_operation : Schedule → Reply → Event → Option Entry
carried_operation h reply (Read t x) =
    if is_update (accepted_in h) t.0 && is_active (accepted_in h) t.0
    then Some (record { event = Read (new_number h t.0) x; reply = reply }) else None
carried_operation h reply (Write t x v) =
    if is_update (accepted_in h) t.0 && is_active (accepted_in h) t.0
    then Some (record { event = Write (new_number h t.0) x v; reply = reply }) else None
carried_operation h reply _ = None

-- Then each read of an active query, which now returns the current value instead of the value that it returned before.
abbrev pub carried_read : Schedule → Event → Option Entry
carried_read h (Read t x) =
    if is_active_query h t.0
    then Some (record { event = Read (new_number h t.0) x; reply = Value (current_value h.opening (accepted_in h) x.0) }) else None
carried_read h _ = None

abbrev pub carried_entries : DistanceFunction → Schedule → List Entry
carried_entries d h =
    map (carried_begin d h) (active_numbers h)
    ++ (filter_map (λ e. carried_operation h e.reply e.event) (filter (λ e. not (is_refusal e.reply)) h.entries)
    ++ filter_map (carried_read h) (accepted_in h))

-- the history with which a carrying renewal continues
abbrev pub carried : DistanceFunction → Schedule → Schedule
carried d h = record (renewed h h.weights) { entries = carried_entries d h }

-- the account of t in two histories: `part` of its limit and of its charges are in the first only
pub record IsCarriedAs (d : DistanceFunction) (h : Schedule) (t : ℕ) (k : Schedule) (u : ℕ) (part : ℕ) : Type 0 where
  pub active : is_active (accepted_in k) u ≡ true
  pub query : is_query (accepted_in k) u ≡ is_query (accepted_in h) t
  pub reads : (x : ℕ) → read_count (accepted_in k) u x ≡ read_count (accepted_in h) t x
  pub read_locks : (x : ℕ) → holds_read (accepted_in k) u x ≡ holds_read (accepted_in h) t x
  pub write_locks : (x : ℕ) → holds_write (accepted_in k) u x ≡ holds_write (accepted_in h) t x
  pub limit : part + limit_of (accepted_in k) u ≡ limit_of (accepted_in h) t
  pub charge : part + charged_in k (charges_in d k) u ≡ charged_in h (charges_in d h) t

-- An active transaction loses nothing: each item keeps its two values, and each active transaction its reads, its
-- locks, and the rest of its limit.
pub record IsCarriedOver (d : DistanceFunction) (h k : Schedule) : Type 0 where
  pub opens : k.opening ≡ committed_values h
  pub weights : k.weights ≡ h.weights
  pub legal : IsLegal d k
  pub committed : (x : ℕ) → committed_value k.opening (accepted_in k) x ≡ committed_value h.opening (accepted_in h) x
  pub current : (x : ℕ) → current_value k.opening (accepted_in k) x ≡ current_value h.opening (accepted_in h) x
  pub each : (t : ℕ) → is_active (accepted_in h) t ≡ true → IsCarriedAs d h t k (new_number h t).0 (settled d h t)

-- A query over any number of histories, from a limit on: the values that it read, and those settled before this history.
pub data IsReport (d : DistanceFunction) (limit : ℕ) : Schedule → ℕ → List Operation → ℕ → Type 0 where
  reads : (h : Schedule) (q : ℕ) → IsLegal d h → IsTrue (is_active_query h q) → limit_of (accepted_in h) q ≡ limit
      → IsReport d limit h q (reads_by h q) 0
  continues : {h : Schedule} {q : ℕ} {read_before : List Operation} {part : ℕ} → IsReport d limit h q read_before part
      → (later : List Entry) → IsLegal d (continued h later) → IsTrue (is_active_query (continued h later) q)
      → IsReport d limit (continued h later) q (read_before ++ reads_in later q) part
  is_carried : {h : Schedule} {q : ℕ} {read_before : List Operation} {part : ℕ} → IsReport d limit h q read_before part
      → (k : Schedule) → IsCarriedOver d h k
      → IsReport d limit k (new_number h q).0 read_before (part + settled d h q)

-- Whatever history a report is in: while it is active, its reads are within the sum of its imports in all its histories
-- of any mixture of committed and current values, and this sum is within the limit with which it began.
abbrev pub ReportsAreBounded : DistanceFunction → Type 0
ReportsAreBounded d =
    (limit : ℕ) (h : Schedule) (q : ℕ) (read_before : List Operation) (part : ℕ) → IsReport d limit h q read_before part
    → ((w : ℕ → ℤ) → IsMixture h w → distance_of_reads d h read_before w ≤ part + import_in (charges_in d h) q)
    × (part + import_in (charges_in d h) q ≤ limit)

-- Once it has committed, the same holds for the values after the updates that committed before it, in the history in
-- which it ends, run in sequence from that history's opening values.
abbrev pub ReportsAreBoundedAtCommit : DistanceFunction → Type 0
ReportsAreBoundedAtCommit d =
    (limit : ℕ) (h : Schedule) (q : ℕ) (read_before : List Operation) (part : ℕ) → IsReport d limit h q read_before part
    → (later : List Entry) → IsLegal d (continued h later) → IsTrue (is_committed_query (continued h later) q)
    → (distance_of_reads d h (read_before ++ reads_in later q) (state (continued h later) (updates_committed_before (continued h later) q))
    ≤ part + import_in (charges_in d (continued h later)) q)
    × (part + import_in (charges_in d (continued h later)) q ≤ limit)

-- The laws, as statements.
abbrev pub LawOfActiveQueries : Type 0
LawOfActiveQueries =
    (d : DistanceFunction) → AreDistances d → (h : Schedule) → IsLegal d h → ImportBoundsActive d h × OpenIsImported d h

abbrev pub LawOfReports : Type 0
LawOfReports = (d : DistanceFunction) → AreDistances d → ReportsAreBounded d × ReportsAreBoundedAtCommit d

-- A carry needs no more capacity: it has at most as many entries as there were.
abbrev pub LawOfCarriedLength : Type 0
LawOfCarriedLength = (d : DistanceFunction) (h : Schedule) → length (carried d h).entries ≤ length h.entries

-- The values that an active update has read are unchanged: its own last earlier write, or else the present committed
-- value.
abbrev pub LawOfActiveUpdates : Type 0
LawOfActiveUpdates =
    (d : DistanceFunction) (h : Schedule) → IsLegal d h
    → (before after : List Entry) (t : TxnId) (x : ItemId) (v : ℤ)
    → h.entries ≡ before ++ record { event = Read t x; reply = Value v } ∷ after
    → IsTrue (is_update (accepted_in h) t.0 && is_active (accepted_in h) t.0)
    → v ≡ last_value (committed_value h.opening (accepted_in h) x.0)
    (filter_map (written (λ u. u == t.0) x.0) (accepted before))

-- The current value of an item is its committed value overwritten by the writes of active updates: so replaying these
-- writes over the committed values yields the current ones.
abbrev pub LawOfCurrentValues : Type 0
LawOfCurrentValues =
    (d : DistanceFunction) (h : Schedule) → IsLegal d h → (x : ℕ)
    → current_value h.opening (accepted_in h) x
    ≡ last_value (committed_value h.opening (accepted_in h) x)
    (filter_map (written (λ u. is_update (accepted_in h) u && is_active (accepted_in h) u) x) (accepted_in h))
