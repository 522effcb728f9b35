-- The lines of a report.
use Rattle.std.specs.Prelude.{ℕ, ℤ, List, [], ◌∷◌, ◌++◌, map, codes, decimal, Option, None, Some}
use Rattle.std.specs.List.{join_with_byte}
use Rattle.std.specs.Fmt.{signed_decimal}
use Rattle.esr_history.specs.declared.event.Reply.{Reply}
use Rattle.esr_history.specs.declared.event.Reply.TheVariants.{Begun, Value, Wrote, Committed, Aborted, Refused}
use Rattle.esr_history.specs.declared.event.Refusal.{Refusal}
use Rattle.esr_base.specs.declared.numbers.TxnId.{TxnId}
use Rattle.esr_history.specs.Refusals.{refusal_number, refusal_words, refusal_blocker}
use Rattle.esr_report.specs.declared.lines.LineError.{LineError}
use Rattle.esr_report.specs.declared.lines.LineError.TheVariants as error
use Rattle.esr_report.specs.Names.{name_of_transaction}

-- words separated by single spaces, and a line feed
abbrev pub line : List (List ℕ) → List ℕ
line words = join_with_byte 32 words ++ 10 ∷ []

-- a declared item
abbrev pub item_line : List ℕ → ℤ → List ℕ
item_line name value = line (codes "item" ∷ name ∷ signed_decimal value ∷ [])

-- a declared item with its weight
abbrev pub weighted_item_line : List ℕ → ℤ → ℕ → List ℕ
weighted_item_line name value weight =
    line (codes "item" ∷ name ∷ signed_decimal value ∷ codes "weight" ∷ decimal weight ∷ [])

-- the first line of a session, with its number
abbrev pub session_line : ℕ → List ℕ
session_line number = line (codes "session" ∷ decimal number ∷ [])

-- a transaction that has begun, with its number
abbrev pub begun_line : List ℕ → ℕ → List ℕ
begun_line name number = line (codes "begun" ∷ name ∷ decimal number ∷ [])

-- the value that a transaction read of an item
abbrev pub value_line : List ℕ → List ℕ → ℤ → List ℕ
value_line txn item value = line (txn ∷ item ∷ signed_decimal value ∷ [])

abbrev pub wrote_line : List ℕ → List ℕ → ℤ → List ℕ
wrote_line txn item value = line (codes "wrote" ∷ txn ∷ item ∷ signed_decimal value ∷ [])

abbrev pub committed_line : List ℕ → List ℕ
committed_line txn = line (codes "committed" ∷ txn ∷ [])

abbrev pub aborted_line : List ℕ → List ℕ
aborted_line txn = line (codes "aborted" ∷ txn ∷ [])

-- a refused event, and a blocked one: the number of the refusal, its text, and the transaction that it names
abbrev pub refused : ℕ → List ℕ → List ℕ
refused number words = line (codes "refused" ∷ decimal number ∷ words ∷ [])

abbrev pub blocked : ℕ → List ℕ → List ℕ → List ℕ
blocked number words name = line (codes "blocked" ∷ decimal number ∷ words ∷ name ∷ [])

-- why an event was refused; if the refusal names a transaction, that one blocks the event
abbrev pub reason_line : List (List ℕ) → Refusal → Option TxnId → List ℕ
reason_line names why None = refused (refusal_number why) (refusal_words why)
reason_line names why (Some txn) =
    blocked (refusal_number why) (refusal_words why) (name_of_transaction names txn.0)

-- the reason, with the transaction that the refusal itself names; the names are those of the transactions, in the
-- order of their numbers
abbrev pub refusal_line : List (List ℕ) → Refusal → List ℕ
refusal_line names why = reason_line names why (refusal_blocker why)

-- the names in an event: a transaction, an item and a value to write, if it has them
pub record Named : Type 0 where
  pub txn : List ℕ
  pub item : List ℕ
  pub value : ℤ

-- the machine's reply to an event
abbrev pub reply_line : List (List ℕ) → Named → Reply → List ℕ
reply_line names named (Begun number) = begun_line named.txn number.0
reply_line names named (Value value) = value_line named.txn named.item value
reply_line names named Wrote = wrote_line named.txn named.item named.value
reply_line names named Committed = committed_line named.txn
reply_line names named Aborted = aborted_line named.txn
reply_line names named (Refused why) = refusal_line names why

-- the totals of imports and of exports, and the number of entries
abbrev pub totals_line : ℕ → ℕ → ℕ → List ℕ
totals_line imports exports entries =
    line (codes "totals import" ∷ decimal imports ∷ codes "export" ∷ decimal exports ∷ codes "entries" ∷ decimal entries
    ∷ [])

-- the names of transactions, separated by commas; a minus for the empty list
abbrev pub listed : (names : List (List ℕ)) (txns : List ℕ) → List ℕ
listed names [] = codes "-"
listed names (txn ∷ txns) = join_with_byte 44 (map (name_of_transaction names) (txn ∷ txns))

-- the finding of a query: its distance, its import, and the updates before its position
abbrev pub audit_words : (names : List (List ℕ)) (name : List ℕ) (distance import : ℕ) (before : List ℕ) → List (List ℕ)
audit_words names name distance import before =
    codes "audit" ∷ name ∷ codes "distance" ∷ decimal distance ∷ codes "import" ∷ decimal import ∷ codes "before"
    ∷ listed names before ∷ []

abbrev pub audit_line : (names : List (List ℕ)) (name : List ℕ) (distance import : ℕ) (before : List ℕ) → List ℕ
audit_line names name distance import before = line (audit_words names name distance import before)

-- a word and the names of transactions
abbrev pub names_line : (first : List ℕ) (names : List (List ℕ)) (txns : List ℕ) → List ℕ
names_line first names txns = line (first ∷ listed names txns ∷ [])

-- the committed updates in a serial order
abbrev pub order_line : (names : List (List ℕ)) (txns : List ℕ) → List ℕ
order_line names txns = names_line (codes "order") names txns

-- the error of a line that makes no event
abbrev pub error_text : LineError → List ℕ
error_text error.NotACommand = codes "error 1 not a command"
error_text error.ItemsAreClosed = codes "error 2 items are closed"
error_text error.NameInUse = codes "error 3 name in use"
error_text error.ValueOutOfRange = codes "error 4 value out of range"
error_text error.TooManyItems = codes "error 5 too many items"
error_text error.NotACommittedQuery = codes "error 6 not a committed query"
error_text error.WeightOutOfRange = codes "error 7 weight out of range"

abbrev pub error_line : LineError → List ℕ
error_line e = line (error_text e ∷ [])
