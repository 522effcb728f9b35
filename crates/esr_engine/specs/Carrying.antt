-- The parts of a renewal that carries the active transactions over.
use Rattle.std.specs.Prelude.{◌≡◌, ◌<◌, ℕ, Bool, true, false, List, [], Option, None, Some, Contains, filter, length, map, slice_get, if◌then◌else◌}
use Rattle.esr_history.specs.declared.event.Event.{Event}
use Rattle.esr_history.specs.declared.event.Entry.{Entry}
use Rattle.esr_history.specs.declared.event.Event.TheVariants.{Read, Write}
use Rattle.esr_history.specs.declared.event.BeginKind.{BeginKind}
use Rattle.esr_history.specs.declared.event.BeginKind.TheVariants.{Update, Query}
use Rattle.esr_history.specs.Events.{is_active, is_query, is_refusal, limit_of, committed_value, current_value}
use Rattle.esr_history.specs.Machine.{DistanceFunction, Schedule, Charge, accepted_in, charge_of_read, export_in, import_in, value_distance, writer}
use Rattle.esr_history.specs.Queries.{is_strict}
use Rattle.esr_history.specs.ReportBounds.{is_active_query}
use Rattle.esr_core.specs.Carried.{active_numbers, carried_operation, carried_read, new_number, settled}
use Rattle.esr_engine.specs.declared.carrying.ActiveEntries.{ActiveEntries}
use Rattle.esr_engine.specs.declared.carrying.ActiveTxn.{ActiveTxn}
use Rattle.esr_engine.specs.declared.carrying.CarriedTxn.{CarriedTxn}

-- how a transaction began
abbrev pub active_as : Schedule → ℕ → ActiveTxn
active_as h t = record {
  txn = record { 0 = t };
  query = is_query (accepted_in h) t;
  limit = limit_of (accepted_in h) t;
  strict = is_strict (accepted_in h) t;
}

-- the active transactions, ascending
abbrev pub active_in : Schedule → List ActiveTxn
active_in h = map (active_as h) (active_numbers h)

-- the accepted operations of active transactions, in the order of the log
abbrev pub is_active_operation : Schedule → Event → Bool
is_active_operation h (Read t x) = is_active (accepted_in h) t.0
is_active_operation h (Write t x v) = is_active (accepted_in h) t.0
is_active_operation h _ = false

abbrev pub is_of_active : Schedule → Entry → Bool
is_of_active h e = if is_refusal e.reply then false else is_active_operation h e.event

abbrev pub active_operations : Schedule → List Entry
active_operations h = filter (is_of_active h) h.entries

-- the active transactions, and indices of entries, among them the index of each of their operations
pub record AreActiveEntries (h : Schedule) (active : ActiveEntries) : Type 0 where
  pub txns : active.txns.items ≡ active_in h
  pub inside : (i : ℕ) → Contains active.places.items i → i < length h.entries
  pub operations : (i : ℕ) (e : Entry) → slice_get h.entries i ≡ Some e → is_of_active h e ≡ true → Contains active.places.items i

-- the charges of a read if it is repeated now
abbrev pub open_of : DistanceFunction → Schedule → Event → List Charge
open_of d h (Read q x) =
    if is_active_query h q.0
    then charge_of_read (value_distance d h) h.opening (accepted_in h) q.0 x.0 (writer (accepted_in h) x.0) else []
open_of d h _ = []

-- the distance of the current value of an item from its committed value
abbrev pub uncommitted_distance : DistanceFunction → Schedule → ℕ → ℕ
uncommitted_distance d h x = value_distance d h x (current_value h.opening (accepted_in h) x) (committed_value h.opening (accepted_in h) x)

-- an import of a query, or an export of an update
abbrev pub amount_to : Bool → List Charge → ℕ → ℕ
amount_to query cs t = if query then import_in cs t else export_in cs t

-- the part of these charges that a transaction pays for an entry
abbrev pub open_amount : DistanceFunction → Schedule → Bool → ℕ → Entry → ℕ
open_amount d h query t e = if is_refusal e.reply then 0 else amount_to query (open_of d h e.event) t

-- a transaction with its number in the new history and its settled amount
abbrev pub carried_as : DistanceFunction → Schedule → ℕ → CarriedTxn
carried_as d h t = record { old = record { 0 = t }; new = new_number h t; settled = settled d h t }

abbrev pub carried_in : DistanceFunction → Schedule → List CarriedTxn
carried_in d h = map (carried_as d h) (active_numbers h)

-- the entry of the new history for an accepted operation of an active update, and for a read of an active query
abbrev pub operation_entry : Schedule → Entry → Option Entry
operation_entry h e = if is_refusal e.reply then None else carried_operation h e.reply e.event

abbrev pub read_entry : Schedule → Entry → Option Entry
read_entry h e = if is_refusal e.reply then None else carried_read h e.event

-- either, by the kind of the transaction
abbrev pub carried_entry : Schedule → BeginKind → Entry → Option Entry
carried_entry h Update = operation_entry h
carried_entry h Query = read_entry h
