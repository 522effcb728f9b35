-- How refusals are described outside the program: number, message and blocking transaction.
use Rattle.std.specs.Prelude.{ℕ, List, codes, Option, None, Some}
use Rattle.esr_history.specs.Events.{TxnId, Refusal, NoSuchTransaction, AlreadyEnded, NoSuchItem, QueryMayNotWrite, ValueOutOfRange, LimitOutOfRange, TooManyTransactions, TooManyReads, BlockedByLock, BlockedByImport, BlockedByExport}

-- a number, a message, and the transaction that blocks the event, if any
pub record RefusalInfo : Type 0 where
  pub number : ℕ
  pub words : List ℕ
  pub blocker : Option TxnId

abbrev pub info : ℕ → List ℕ → Option TxnId → RefusalInfo
info number words blocker = record { number = number; words = words; blocker = blocker }

-- the refusals in order; the message of the last three is what blocks the event
abbrev pub refusal_info : Refusal → RefusalInfo
refusal_info NoSuchTransaction = info 1 (codes "no such transaction") None
refusal_info AlreadyEnded = info 2 (codes "already ended") None
refusal_info NoSuchItem = info 3 (codes "no such item") None
refusal_info QueryMayNotWrite = info 4 (codes "a query may not write") None
refusal_info ValueOutOfRange = info 5 (codes "value out of range") None
refusal_info LimitOutOfRange = info 6 (codes "limit out of range") None
refusal_info TooManyTransactions = info 7 (codes "too many transactions") None
refusal_info TooManyReads = info 8 (codes "too many reads") None
refusal_info (BlockedByLock holder) = info 9 (codes "lock") (Some holder)
refusal_info (BlockedByImport query) = info 10 (codes "import") (Some query)
refusal_info (BlockedByExport update) = info 11 (codes "export") (Some update)

abbrev pub refusal_number : Refusal → ℕ
refusal_number why = (refusal_info why).number

abbrev pub refusal_words : Refusal → List ℕ
refusal_words why = (refusal_info why).words

abbrev pub refusal_blocker : Refusal → Option TxnId
refusal_blocker why = (refusal_info why).blocker
