-- Calls, read from the structs that lend their names.
use Rattle.std.specs.Prelude.{◌≡◌, ℕ, ◌<◌, List, [], ◌∷◌, true, false, Option, Some, None, length, take, slice_get, slice_index_or, unwrap_or, position, option_and_then}
use Rattle.esr_base.specs.declared.numbers.TxnId.{TxnId}
use Rattle.esr_history.specs.declared.event.Event.{Event}
use Rattle.esr_history.specs.declared.event.Event.TheVariants as event
use Rattle.esr_history.specs.declared.event.Reply.{Reply}
use Rattle.esr_grammar.specs.Command.{Command, begin_update, begin_query, begin_strict_query, read, write, commit, abort}
use Rattle.esr_history.specs.declared.event.TxnKind.{TxnKind}
use Rattle.esr_history.specs.declared.event.TxnKind.TheVariants as kind
use Rattle.esr_plan.specs.declared.call.Caller.{Caller}
use Rattle.esr_plan.specs.declared.call.Operand.{Operand}
pub use Rattle.esr_plan.specs.declared.call.Call.{Call}
use Rattle.esr_plan.specs.declared.call.Call.TheVariants as call
use Rattle.esr_plan.specs.Blocks.{Answered, begins, number_in, item_called}

-- the command and the event that begin a transaction of the kind
abbrev pub begin_command : TxnKind → List ℕ → ℕ → Command
begin_command kind.Update name limit = begin_update name limit
begin_command kind.Query name limit = begin_query name limit
begin_command kind.StrictQuery name limit = begin_strict_query name limit

abbrev pub begin_event : TxnKind → ℕ → Event
begin_event kind.Update limit = event.BeginUpdate limit
begin_event kind.Query limit = event.BeginQuery limit false
begin_event kind.StrictQuery limit = event.BeginQuery limit true

abbrev pub command_of : Call → Command
command_of (call.Begin name k limit) = begin_command k name.now limit
command_of (call.Read txn x) = read txn.name.now x.name.now
command_of (call.Write txn x value) = write txn.name.now x.name.now value
command_of (call.Commit txn) = commit txn.name.now
command_of (call.Abort txn) = abort txn.name.now

-- calls with the last replies to them
abbrev pub answers_of : List Call → List Reply → List Answered
answers_of [] replies = []
answers_of (c ∷ calls) [] = []
answers_of (c ∷ calls) (reply ∷ replies) = record { command = command_of c; reply = reply } ∷ answers_of calls replies

-- block by block, the calls with the last replies to them
abbrev pub all_answers : List (List Call) → List (List Reply) → List (List Answered)
all_answers [] replies = []
all_answers (b ∷ blocks) [] = []
all_answers (b ∷ blocks) (r ∷ replies) = answers_of b r ∷ all_answers blocks replies

-- block by block, as many replies as calls
abbrev pub AreAnswered : List (List Call) → List (List Reply) → Type 0
AreAnswered [] [] = Unit {0}
AreAnswered (b ∷ blocks) (r ∷ replies) = (length r ≡ length b) × AreAnswered blocks replies
AreAnswered _ _ = ⊥

-- the number that the begin at that place got, and 0 if it got none
abbrev pub number_by : List Reply → Option ℕ → TxnId
number_by replies begin =
    record { 0 = unwrap_or (option_and_then (λ place. option_and_then number_in (slice_get replies place)) begin) 0 }

-- the event of a call, by the last replies to the calls before it
abbrev pub event_by : List Reply → Call → Event
event_by replies (call.Begin name k limit) = begin_event k limit
event_by replies (call.Read txn x) = event.Read (number_by replies txn.begin) x.item
event_by replies (call.Write txn x value) = event.Write (number_by replies txn.begin) x.item value
event_by replies (call.Commit txn) = event.Commit (number_by replies txn.begin)
event_by replies (call.Abort txn) = event.Abort (number_by replies txn.begin)

-- the place of the name's begin among the calls
abbrev pub place_of : List Call → List ℕ → Option ℕ
place_of calls name = position (λ c. begins name (command_of c)) calls

-- the caller's begin is that of its name among the calls before
abbrev pub IsCaller : List Call → Caller → Type 0
IsCaller earlier txn = txn.begin ≡ place_of earlier txn.name.now

-- the number is that of the item's name
abbrev pub IsOperand : List (List ℕ) → Operand → Type 0
IsOperand names x = x.item ≡ item_called names x.name.now

-- the names in the call, after these calls of its block
abbrev pub IsResolved : List (List ℕ) → List Call → Call → Type 0
IsResolved names earlier (call.Read txn x) = IsCaller earlier txn × IsOperand names x
IsResolved names earlier (call.Write txn x value) = IsCaller earlier txn × IsOperand names x
IsResolved names earlier (call.Commit txn) = IsCaller earlier txn
IsResolved names earlier (call.Abort txn) = IsCaller earlier txn
IsResolved names earlier _ = Unit {0}

-- each call of a block, after those before it
abbrev pub AreResolved : List (List ℕ) → List Call → Type 0
AreResolved names calls =
    (i : ℕ) (c : Call) → i < length calls → IsResolved names (take i calls) (slice_index_or calls i c)
