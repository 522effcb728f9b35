-- The text of a script: the output of a run over its lines, and the end of the run.
use Rattle.std.specs.Prelude.{◌≡◌, ◌⊎◌, OnOk, OnErr, IfErr, ℕ, ◌+◌, ◌==◌, ℤ, pos, List, [], ◌∷◌, ◌++◌, true, false, not, nat_lt, nat_eq, cond, Option, Some, None, Result, Ok, Err, length, unwrap_or, if◌then◌else◌}
use Rattle.esr_items.specs.Values.{is_value}
use Rattle.esr_items.specs.Weights.{is_weight, weighted}
use Rattle.esr_base.specs.declared.limits.TheConstants.{MAX_ENTRIES, MAX_ITEMS}
use Rattle.esr_base.specs.declared.numbers.ItemId.{ItemId}
use Rattle.esr_history.specs.declared.event.Event.{Event}
use Rattle.esr_history.specs.declared.event.Event.TheVariants as event
use Rattle.esr_history.specs.declared.event.Reply.{Reply}
use Rattle.esr_history.specs.declared.event.Reply.TheVariants as reply
use Rattle.esr_history.specs.Machine.{reply_to, extended, charges_in, import_in}
use Rattle.esr_history.specs.Queries.{is_committed_query}
use Rattle.esr_history.specs.Totals.{all_imports, all_exports}
use Rattle.esr_order.specs.Least.{nearest_placement, least_distance}
use Rattle.esr_report.specs.declared.lines.LineError.{LineError}
use Rattle.esr_report.specs.declared.lines.LineError.TheVariants.{NotACommand, ItemsAreClosed, NameInUse, ValueOutOfRange, TooManyItems, NotACommittedQuery, WeightOutOfRange}
use Rattle.esr_report.specs.Names.{position_of, is_bound}
use Rattle.esr_report.specs.Lines.{Named, item_line, weighted_item_line, reply_line, totals_line, audit_line, error_line}
use Rattle.esr_grammar.specs.declared.limits.TheConstants.{MAX_LINES, MAX_LINE_BYTES}
pub use Rattle.esr_views.specs.State.{ScriptState, transaction_called}
pub use Rattle.esr_script.specs.declared.fault.RunFault.{RunFault}
use Rattle.esr_script.specs.declared.fault.RunFault.TheVariants as fault
use Rattle.esr_grammar.specs.Lines.{lines}
use Rattle.esr_grammar.specs.Command.{Command, item, weighted_item, begin_update, begin_query, begin_strict_query, read, write, commit, abort, audit, totals, is_skipped, reading}

abbrev pub start : ScriptState
start = record {
  items = [];
  transactions = [];
  closed = false;
  history = record { opening = []; weights = []; entries = [] };
}

-- the state in which no more items may be declared
abbrev pub closed : ScriptState → ScriptState
closed s = record s { closed = true }

-- items are numbered from 0; an unbound name denotes a number that no item has
abbrev pub item_called : ScriptState → List ℕ → ItemId
item_called s name = record { 0 = unwrap_or (position_of s.items name) MAX_ITEMS }

-- the names of the transactions after a reply: an accepted begin binds its name
abbrev pub bound : List (List ℕ) → List ℕ → Reply → List (List ℕ)
bound names name (reply.Begun number) = names ++ name ∷ []
bound names name _ = names

-- the machine executes an event, whose reply is an entry of the history
abbrev pub ask : ScriptState → Named → Event → Result (ScriptState × List ℕ) RunFault
ask s named e =
    if length s.history.entries == MAX_ENTRIES then Err fault.HistoryFull
    else (let r = reply_to weighted s.history e in let names = bound s.transactions named.txn r in
    Ok (record s { closed = true; transactions = names; history = extended s.history e r }, reply_line names named r))

-- a begin, whose name must not be bound already
abbrev pub begin : ScriptState → List ℕ → Event → Result (ScriptState × List ℕ) RunFault
begin s name e =
    if is_bound s.transactions name then Ok (record s { closed = true }, error_line NameInUse)
    else ask s (record { txn = name; item = []; value = pos 0 }) e

-- the state with one more item
abbrev pub with_item : ScriptState → List ℕ → ℤ → ℕ → ScriptState
with_item s name value weight =
    let h = s.history in
    record s {
      items = s.items ++ name ∷ [];
      history = record h { opening = h.opening ++ value ∷ []; weights = h.weights ++ weight ∷ [] };
    }

-- the error of an item's declaration, if it has one
abbrev pub item_error : ScriptState → List ℕ → ℤ → ℕ → Option LineError
item_error s name value weight =
    if s.closed then Some ItemsAreClosed
    else if is_bound s.items name then Some NameInUse
    else if not (is_value value) then Some ValueOutOfRange
    else if length s.items == MAX_ITEMS then Some TooManyItems
    else if not (is_weight weight) then Some WeightOutOfRange
    else None

-- declares an item and returns the line, or returns the error
abbrev pub declare_or : Option LineError → ScriptState → List ℕ → ℤ → ℕ → List ℕ → ScriptState × List ℕ
declare_or None s name value weight line = (with_item s name value weight, line)
declare_or (Some error) s name value weight line = (s, error_line error)

abbrev pub declare : ScriptState → List ℕ → ℤ → ℕ → List ℕ → ScriptState × List ℕ
declare s name value weight line = declare_or (item_error s name value weight) s name value weight line

-- the line of what the audit of a transaction finds: its least distance, its import, and the smallest least set
abbrev pub audit_text : ScriptState → List ℕ → List ℕ
audit_text s name =
    let h = s.history in let q = (transaction_called s name).0 in
    if is_committed_query h q
    then audit_line s.transactions name
    (least_distance weighted h q) (import_in (charges_in weighted h) q) (nearest_placement weighted h q)
    else error_line NotACommittedQuery

-- the state after a command, and its line
abbrev pub execute : ScriptState → Command → Result (ScriptState × List ℕ) RunFault
execute s (item name value) = Ok (declare s name value 1 (item_line name value))
execute s (weighted_item name value weight) = Ok (declare s name value weight (weighted_item_line name value weight))
execute s (begin_update name limit) = begin s name (event.BeginUpdate limit)
execute s (begin_query name limit) = begin s name (event.BeginQuery limit false)
execute s (begin_strict_query name limit) = begin s name (event.BeginQuery limit true)
execute s (read txn x) =
    ask s (record { txn = txn; item = x; value = pos 0 }) (event.Read (transaction_called s txn) (item_called s x))
execute s (write txn x value) = ask s (record {
  txn = txn;
  item = x;
  value = value;
}) (event.Write (transaction_called s txn) (item_called s x) value)
execute s (commit txn) = ask s (record { txn = txn; item = []; value = pos 0 }) (event.Commit (transaction_called s txn))
execute s (abort txn) = ask s (record { txn = txn; item = []; value = pos 0 }) (event.Abort (transaction_called s txn))
execute s (audit txn) = Ok (record s { closed = true }, audit_text s txn)
execute s totals = Ok (
  record s { closed = true },
  totals_line (all_imports weighted s.history) (all_exports weighted s.history) (length s.history.entries),
)

-- the state after a line, and its reply
abbrev pub answer : ScriptState → List ℕ → Result (ScriptState × List ℕ) RunFault
answer s line =
    if is_skipped line then Ok (s, [])
    else (elim (reading line) [
      | Some command ↦ execute s command
      | None ↦ Ok (s, error_line NotACommand)
    ])

-- A line was executed as due: the state is the due state, and the due text follows the output. An error leaves the
-- output unchanged, and is out of memory, or the due full history.
pub record Executes {T : Type 0} (due : Result (ScriptState × List ℕ) RunFault) (new : ScriptState) (out_old out_new : List ℕ)
    (result : Result T RunFault) : Type 0 where
  pub ok : OnOk result ((text : List ℕ) × (due ≡ Ok (new, text)) × (out_new ≡ out_old ++ text))
  pub err : OnErr result (out_new ≡ out_old)
  pub faults : IfErr result (λ e. (e ≡ fault.NoMemory) ⊎ ((e ≡ fault.HistoryFull) × (due ≡ Err fault.HistoryFull)))

-- like `Executes`, if the text is dropped
pub record EndsIn {T : Type 0} (due : Result (ScriptState × List ℕ) RunFault) (new : ScriptState) (result : Result T RunFault)
    : Type 0 where
  pub ok : OnOk result ((text : List ℕ) × (due ≡ Ok (new, text)))
  pub faults : IfErr result (λ e. (e ≡ fault.NoMemory) ⊎ ((e ≡ fault.HistoryFull) × (due ≡ Err fault.HistoryFull)))

-- the text of the executed lines, and the fault of the line that ends the run, if one does
pub record Outcome : Type 0 where
  pub text : List ℕ
  pub fault : Option RunFault

-- a line of which the run ends
abbrev pub stopped : RunFault → Outcome
stopped f = record { text = []; fault = Some f }

-- an outcome whose text follows another text
abbrev pub preceded_by : List ℕ → Outcome → Outcome
preceded_by front o = record { text = front ++ o.text; fault = o.fault }

-- the run over the lines from a state on, of which `count` are executed or skipped already
abbrev pub outcome_from : ℕ → ScriptState → List (List ℕ) → Outcome
outcome_from count state [] = record { text = []; fault = None }
outcome_from count state (line ∷ more) =
    cond (nat_eq count MAX_LINES) (stopped fault.TooManyLines)
    (cond (nat_lt MAX_LINE_BYTES (length line)) (stopped fault.LineTooLong)
    (elim (answer state line) [
      | Ok next ↦ preceded_by next.1 (outcome_from (count + 1) next.0 more)
      | Err f ↦ stopped f
    ]))

abbrev pub outcome_of_lines : List (List ℕ) → Outcome
outcome_of_lines ls = outcome_from 0 start ls

-- the run over the bytes
abbrev pub outcome : List ℕ → Outcome
outcome bytes = outcome_of_lines (lines bytes)

-- ---- the state that a run leads to

-- after a line; one that ends the run changes nothing
abbrev pub next_state : ScriptState → List ℕ → ScriptState
next_state s line = elim (answer s line) [ Ok next ↦ next.0 | Err f ↦ s ]

abbrev pub state_after : ScriptState → List (List ℕ) → ScriptState
state_after s [] = s
state_after s (line ∷ more) = state_after (next_state s line) more

-- after all lines of the bytes
abbrev pub final : List ℕ → ScriptState
final bytes = state_after start (lines bytes)
