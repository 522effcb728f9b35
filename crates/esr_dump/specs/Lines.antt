-- The script of a history: a line for each item, and one for each entry that was accepted or blocked. Items are named by
-- their numbers from 0, transactions by theirs from 1.
use Rattle.std.specs.Prelude.{ℕ, ℤ, ◌==◌, List, [], ◌++◌, Bool, true, is_some, length, flat_map, slice_index_or, if◌then◌else◌}
use Rattle.std.specs.List.{range_with_len}
use Rattle.esr_items.specs.Values.{value_at}
use Rattle.esr_items.specs.Weights.{weight_of}
use Rattle.esr_history.specs.declared.event.Event.{Event}
use Rattle.esr_history.specs.declared.event.Event.TheVariants.{BeginUpdate, BeginQuery, Read, Write, Commit, Abort}
use Rattle.esr_history.specs.declared.event.Reply.{Reply}
use Rattle.esr_history.specs.declared.event.Reply.TheVariants.{Begun, Refused}
use Rattle.esr_history.specs.declared.event.Entry.{Entry}
use Rattle.esr_history.specs.Machine.{Schedule}
use Rattle.esr_history.specs.Refusals.{refusal_blocker}
use Rattle.esr_grammar.specs.Command.{Command, item, weighted_item, begin_update, begin_query, begin_strict_query, read, write, commit, abort, words}
use Rattle.esr_report.specs.Lines.{line}
use Rattle.esr_report.specs.Names.{name_of_transaction}

abbrev pub name_of_item : List (List ℕ) → ℕ → List ℕ
name_of_item items x = slice_index_or items x []

-- Whether the script has a line for the reply's event. An event refused for a reason other than a lock or a limit of
-- a transaction has none: it changed nothing, and may contain numbers that no line can.
abbrev pub is_kept : Reply → Bool
is_kept (Refused why) = is_some (refusal_blocker why)
is_kept _ = true

-- the number that a begin got
abbrev pub number_begun : Reply → ℕ
number_begun (Begun t) = t.0
number_begun _ = 0

abbrev pub query_command : Bool → List ℕ → ℕ → Command
query_command strict name limit = if strict then begin_strict_query name limit else begin_query name limit

-- the command of an event with this reply
abbrev pub command_of : (items transactions : List (List ℕ)) → Reply → Event → Command
command_of items transactions r (BeginUpdate limit) =
    begin_update (name_of_transaction transactions (number_begun r)) limit
command_of items transactions r (BeginQuery limit strict) =
    query_command strict (name_of_transaction transactions (number_begun r)) limit
command_of items transactions r (Read t x) = read (name_of_transaction transactions t.0) (name_of_item items x.0)
command_of items transactions r (Write t x v) =
    write (name_of_transaction transactions t.0) (name_of_item items x.0) v
command_of items transactions r (Commit t) = commit (name_of_transaction transactions t.0)
command_of items transactions r (Abort t) = abort (name_of_transaction transactions t.0)

-- an item's declaration
abbrev pub declaration : List ℕ → ℤ → ℕ → Command
declaration name value weight = if weight == 1 then item name value else weighted_item name value weight

-- a command as a line
abbrev pub line_of : Command → List ℕ
line_of c = line (words c)

abbrev pub item_text : List (List ℕ) → Schedule → ℕ → List ℕ
item_text items h x = line_of (declaration (name_of_item items x) (value_at h.opening x) (weight_of h.weights x))

abbrev pub entry_text : (items transactions : List (List ℕ)) → Entry → List ℕ
entry_text items transactions e =
    if is_kept e.reply then line_of (command_of items transactions e.reply e.event) else []

abbrev pub items_text : List (List ℕ) → Schedule → List ℕ
items_text items h = flat_map (item_text items h) (range_with_len 0 (length h.opening))

-- the whole script
abbrev pub script : (items transactions : List (List ℕ)) → Schedule → List ℕ
script items transactions h = items_text items h ++ flat_map (entry_text items transactions) h.entries
