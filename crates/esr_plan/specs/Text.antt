-- The text of a drive, by its plan, its history and the last replies.
use Rattle.std.specs.Prelude.{ℕ, ◌+◌, ℤ, pos, List, [], ◌∷◌, ◌++◌, Option, Some, None, length, map, unwrap_or, nat_eq, Bool, false, flat_map, find}
use Rattle.std.specs.Option.{option_and_then, option_map_or}
use Rattle.esr_items.specs.Weights.{weighted}
use Rattle.esr_history.specs.Events.{txn_numbers}
use Rattle.esr_history.specs.Machine.{Schedule, accepted_in}
use Rattle.esr_history.specs.Totals.{all_imports, all_exports}
use Rattle.esr_audit.specs.Findings.{summary_of, committed_queries}
use Rattle.esr_report.specs.Names.{name_of_transaction}
use Rattle.esr_report.specs.Lines.{Named, item_line, weighted_item_line, session_line, reply_line, audit_line, totals_line}
use Rattle.esr_grammar.specs.Command.{Command, begin_update, begin_query, begin_strict_query, read, write, commit, abort}
use Rattle.esr_plan.specs.Plan.{Plan, new_name}
use Rattle.esr_plan.specs.Blocks.{Answered, number_in}

-- whether the line began the transaction with this number
abbrev pub has_begun : ℕ → Answered → Bool
has_begun number a = option_map_or (nat_eq number) (number_in a.reply) false

-- the name that the transaction with this number began by
abbrev pub name_begun : List Answered → ℕ → List ℕ
name_begun answers number = unwrap_or (option_and_then (λ a. new_name a.command) (find (has_begun number) answers)) []

-- the names of the transactions, in the order of their numbers
abbrev pub names_of : Schedule → List (List Answered) → List (List ℕ)
names_of h blocks = map (name_begun (flat_map (λ b. b) blocks)) (txn_numbers (accepted_in h))

-- the names in a command of a block
abbrev pub subject_of : Command → Named
subject_of (begin_update name limit) = record { txn = name; item = []; value = pos 0 }
subject_of (begin_query name limit) = record { txn = name; item = []; value = pos 0 }
subject_of (begin_strict_query name limit) = record { txn = name; item = []; value = pos 0 }
subject_of (read txn x) = record { txn = txn; item = x; value = pos 0 }
subject_of (write txn x value) = record { txn = txn; item = x; value = value }
subject_of (commit txn) = record { txn = txn; item = []; value = pos 0 }
subject_of (abort txn) = record { txn = txn; item = []; value = pos 0 }
subject_of other = record { txn = []; item = []; value = pos 0 }

-- the line of an item, with its weight if it has one
abbrev pub item_text : List ℕ → ℤ → Option ℕ → List ℕ
item_text name value None = item_line name value
item_text name value (Some weight) = weighted_item_line name value weight

abbrev pub items_text : List (List ℕ) → List ℤ → List (Option ℕ) → List ℕ
items_text [] values weights = []
items_text (name ∷ names) [] weights = []
items_text (name ∷ names) (value ∷ values) [] = []
items_text (name ∷ names) (value ∷ values) (weight ∷ weights) =
    item_text name value weight ++ items_text names values weights

-- the last replies to the commands of a block
abbrev pub replies_text : List (List ℕ) → List Answered → List ℕ
replies_text names answers = flat_map (λ a. reply_line names (subject_of a.command) a.reply) answers

-- the block of number k
abbrev pub block_text : List (List ℕ) → ℕ → List Answered → List ℕ
block_text names k b = session_line k ++ replies_text names b

-- the blocks from number k on
abbrev pub blocks_text : List (List ℕ) → ℕ → List (List Answered) → List ℕ
blocks_text names k [] = []
blocks_text names k (b ∷ blocks) = block_text names k b ++ blocks_text names (k + 1) blocks

-- the line of a query: the query, its distance, its import, and the updates before its position
abbrev pub finding_text : List (List ℕ) → ℕ × ℕ × ℕ × List ℕ → List ℕ
finding_text names t = audit_line names (name_of_transaction names t.0) t.1 t.2 t.3

-- the findings of the committed queries: the least distance, the import, and the smallest least set of each
abbrev pub findings_text : Schedule → List (List ℕ) → List ℕ
findings_text h names = flat_map (finding_text names) (map (summary_of weighted h) (committed_queries h))

abbrev pub text_of : Plan → Schedule → List (List Answered) → List ℕ
text_of p h blocks =
    let names = names_of h blocks in
    items_text p.names p.values p.weights
    ++ blocks_text names 0 blocks
    ++ findings_text h names
    ++ totals_line (all_imports weighted h) (all_exports weighted h) (length h.entries)
