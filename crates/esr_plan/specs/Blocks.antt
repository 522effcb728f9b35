-- The calls of sessions for the commands of their blocks.
use Rattle.std.specs.Prelude.{◌≡◌, ℕ, ◌≤◌, List, [], ◌∷◌, ◌++◌, Bool, true, false, Option, Some, None, All, length, map, slice_get, unwrap_or, position, option_and_then, bytes_eq}
use Rattle.esr_base.specs.declared.limits.TheConstants.{MAX_ITEMS}
use Rattle.esr_base.specs.declared.numbers.ItemId.{ItemId}
use Rattle.esr_base.specs.declared.numbers.TxnId.{TxnId}
use Rattle.esr_history.specs.declared.event.Event.{Event}
use Rattle.esr_history.specs.declared.event.Event.TheVariants as event
use Rattle.esr_history.specs.declared.event.Reply.{Reply}
use Rattle.esr_history.specs.declared.event.Reply.TheVariants.{Begun}
use Rattle.esr_report.specs.Names.{position_of}
use Rattle.esr_grammar.specs.Command.{Command, begin_update, begin_query, begin_strict_query, read, write, commit, abort}
use Rattle.esr_session.specs.declared.receipt.Receipt.{Receipt}
use Rattle.esr_session.specs.Receipts.{is_blocked}
use Rattle.esr_plan.specs.Plan.{new_name}

-- a command with the last reply to it
pub record Answered : Type 0 where
  pub command : Command
  pub reply : Reply

-- the number that a begin got, from its reply
abbrev pub number_in : Reply → Option ℕ
number_in (Begun number) = Some number.0
number_in _ = None

abbrev pub begins : List ℕ → Command → Bool
begins name c = elim (new_name c) [ Some begun ↦ bytes_eq name begun | None ↦ false ]

-- the number that a name's begin got earlier in the block
abbrev pub number_got : List Answered → List ℕ → Option ℕ
number_got earlier name =
    option_and_then (λ place. option_and_then (λ a. number_in a.reply) (slice_get earlier place))
    (position (λ a. begins name a.command) earlier)

-- the number of a transaction's name, and 0 if it has none
abbrev pub transaction_called : List Answered → List ℕ → TxnId
transaction_called earlier name = record { 0 = unwrap_or (number_got earlier name) 0 }

-- items are numbered from 0; an undeclared name denotes a number that no item has
abbrev pub item_called : List (List ℕ) → List ℕ → ItemId
item_called names name = record { 0 = unwrap_or (position_of names name) MAX_ITEMS }

-- the event of a command of a block, by the names of the items and the lines of the block before it
abbrev pub event_of : List (List ℕ) → List Answered → Command → Option Event
event_of names earlier (begin_update name limit) = Some (event.BeginUpdate limit)
event_of names earlier (begin_query name limit) = Some (event.BeginQuery limit false)
event_of names earlier (begin_strict_query name limit) = Some (event.BeginQuery limit true)
event_of names earlier (read txn x) = Some (event.Read (transaction_called earlier txn) (item_called names x))
event_of names earlier (write txn x value) =
    Some (event.Write (transaction_called earlier txn) (item_called names x) value)
event_of names earlier (commit txn) = Some (event.Commit (transaction_called earlier txn))
event_of names earlier (abort txn) = Some (event.Abort (transaction_called earlier txn))
event_of names earlier _ = None

-- The receipts of one command: its event was retried while it was blocked, at most 100 times in all.
pub record IsRun (e : Event) (reply : Reply) (run : List Receipt) : Type 0 where
  pub blocked : List Receipt
  pub last : Receipt
  pub parts : run ≡ blocked ++ last ∷ []
  pub events : All (λ r. r.event ≡ e) run
  pub were_blocked : All (λ r. is_blocked r.reply ≡ true) blocked
  pub upper_bound : length run ≤ 100
  pub patient : is_blocked last.reply ≡ true → length run ≡ 100
  pub reply_is : reply ≡ last.reply

-- The receipts of a block are runs, one for each of its commands.
pub data AreRuns (names : List (List ℕ)) : List Answered → List Receipt → Type 0 where
  start : AreRuns names [] []
  more : (earlier : List Answered) (receipts : List Receipt) (c : Command) (e : Event) (reply : Reply)
      (run : List Receipt)
      → AreRuns names earlier receipts → event_of names earlier c ≡ Some e → IsRun e reply run
      → AreRuns names (earlier ++ record { command = c; reply = reply } ∷ []) (receipts ++ run)

-- block by block
abbrev pub AreBlocks : List (List ℕ) → List (List Answered) → List (List Receipt) → Type 0
AreBlocks names [] [] = Unit {0}
AreBlocks names (b ∷ blocks) (rs ∷ lists) = AreRuns names b rs × AreBlocks names blocks lists
AreBlocks names _ _ = ⊥

-- the commands with a reply
abbrev pub commands_of : List Answered → List Command
commands_of answers = map (λ a. a.command) answers
