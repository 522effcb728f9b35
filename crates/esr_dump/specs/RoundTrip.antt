-- A run of the script of a history recreates the history: what it declares and requests, by the names that it uses,
-- and the replies.
use Rattle.std.specs.Prelude.{◌≡◌, ◌≤◌, ℕ, ℤ, ◌+◌, List, [], ◌∷◌, Bool, true, false, Option, Some, None, codes, length, map, filter, option_map, option_and_then}
use Rattle.std.specs.List.{All, filter_map, range_with_len}
use Rattle.esr_items.specs.Values.{value_at}
use Rattle.esr_items.specs.Weights.{weight_of, weighted}
use Rattle.esr_base.specs.declared.numbers.ItemId.{ItemId}
use Rattle.esr_base.specs.declared.numbers.TxnId.{TxnId}
use Rattle.esr_history.specs.declared.event.Event.{Event}
use Rattle.esr_history.specs.declared.event.Event.TheVariants as event
use Rattle.esr_history.specs.Events.{begin_records}
use Rattle.esr_history.specs.Machine.{Schedule, IsLegal, accepted_in}
use Rattle.esr_grammar.specs.Command.{Command, item, weighted_item, begin_update, begin_query, begin_strict_query, read, write, commit, abort, audit, totals, IsName, both, reading}
use Rattle.esr_grammar.specs.Lines.{lines}
use Rattle.esr_report.specs.Names.{position_of}
use Rattle.esr_dump.specs.Lines.{is_kept, name_of_item}
use Rattle.esr_dump.specs.Naming.{first_names, spelled}

-- the meanings of the lines of a text, for the commands that have one
abbrev pub found_in : {X : Type 0} → (Command → Option X) → List ℕ → List X
found_in of text = filter_map (λ line. option_and_then of (reading line)) (lines text)

-- the item that a command declares: its name, its value and its weight
abbrev pub declared_by : Command → Option (List ℕ × ℤ × ℕ)
declared_by (item name value) = Some (name, value, 1)
declared_by (weighted_item name value weight) = Some (name, value, weight)
declared_by _ = None

-- the item or the transaction with a name
abbrev pub item_called : List (List ℕ) → List ℕ → Option ItemId
item_called items name = option_map (λ n. record { 0 = n }) (position_of items name)

abbrev pub transaction_called : List (List ℕ) → List ℕ → Option TxnId
transaction_called transactions name = option_map (λ n. record { 0 = n + 1 }) (position_of transactions name)

-- the event that a command requests
abbrev pub event_of : (items transactions : List (List ℕ)) → Command → Option Event
event_of items transactions (begin_update name limit) = Some (event.BeginUpdate limit)
event_of items transactions (begin_query name limit) = Some (event.BeginQuery limit false)
event_of items transactions (begin_strict_query name limit) = Some (event.BeginQuery limit true)
event_of items transactions (read t x) = both event.Read (transaction_called transactions t) (item_called items x)
event_of items transactions (write t x v) =
    both (λ u y. event.Write u y v) (transaction_called transactions t) (item_called items x)
event_of items transactions (commit t) = option_map event.Commit (transaction_called transactions t)
event_of items transactions (abort t) = option_map event.Abort (transaction_called transactions t)
event_of items transactions _ = None

-- the items of a history, as lines declare them
abbrev pub declared : List (List ℕ) → Schedule → ℕ → List ℕ × ℤ × ℕ
declared items h x = (name_of_item items x, value_at h.opening x, weight_of h.weights x)

-- the history without the entries refused for a reason other than a lock or a limit of a transaction
abbrev pub kept : Schedule → Schedule
kept h = record h { entries = filter (λ e. is_kept e.reply) h.entries }

-- there is a valid name for each item and each transaction
pub record AreNames (items transactions : List (List ℕ)) (h : Schedule) : Type 0 where
  pub all_items : length h.opening ≤ length items
  pub all_transactions : length (begin_records (accepted_in h)) ≤ length transactions
  pub items_spelled : All IsName items
  pub transactions_spelled : All IsName transactions

-- The text declares the items, and requests the events that were accepted or blocked, in their order; and the
-- machine's replies to these alone, one after another, are those of the history.
pub record RoundTrips (items transactions : List (List ℕ)) (h : Schedule) (text : List ℕ) : Type 0 where
  pub items_declared : found_in declared_by text ≡ map (declared items h) (range_with_len 0 (length h.opening))
  pub events_asked : found_in (event_of items transactions) text ≡ map (λ e. e.event) (kept h).entries
  pub same_answers : IsLegal weighted (kept h)

-- The text recreates the history by these names, if they are valid and distinct; otherwise by numbers: items or
-- transactions, as the case may be.
abbrev pub IsDump : (items transactions : List (List ℕ)) → Schedule → List ℕ → Type 0
IsDump items transactions h text =
    RoundTrips (spelled (codes "i") 0 (first_names (length h.opening) items))
    (spelled (codes "t") 1 (first_names (length (begin_records (accepted_in h))) transactions)) h text
