-- The parts of a machine, by the accepted events.
use Rattle.std.specs.Prelude.{◌≡◌, ℕ, ℤ, ◌<◌, List, length, map, if◌then◌else◌}
use Rattle.esr_items.specs.Values.{current_at, committed_at}
use Rattle.esr_core.specs.Types.{Versions, Event}
use Rattle.esr_history.specs.Events.{kind_of, txn_numbers, limit_of, is_active, is_query, total_read_count, committed_value, current_value}
use Rattle.esr_history.specs.Machine.{charges, import_in, export_in}
use Rattle.esr_history.specs.ItemLocks.{ItemLocks, locks_of}
use Rattle.esr_history.specs.WellFormed.{IsWellFormed}
use Rattle.esr_ledgers.specs.declared.account.Account.{Account}
pub use Rattle.esr_core.specs.declared.state.Transaction.{Transaction}

-- the transactions, by their numbers from 1
abbrev pub transaction_after : List Event → ℕ → Transaction
transaction_after events t = record {
  kind = kind_of (is_query events t);
  active = is_active events t;
  reads = if is_query events t then total_read_count events t else 0;
}

abbrev pub transactions_after : List Event → List Transaction
transactions_after events = map (transaction_after events) (txn_numbers events)

-- their accounts
abbrev pub account_after : (ℕ → ℤ → ℤ → ℕ) → List ℤ → List Event → ℕ → Account
account_after d opening events t = record {
  number = record { 0 = t };
  kind = kind_of (is_query events t);
  limit = limit_of events t;
  amount = if is_query events t then import_in (charges d opening events) t else export_in (charges d opening events) t;
}

abbrev pub books_of : (ℕ → ℤ → ℤ → ℕ) → List ℤ → List Event → List Account
books_of d opening events = map (account_after d opening events) (txn_numbers events)

-- the items, transactions, locks and accounts are those of the accepted events
pub record Represents (d : ℕ → ℤ → ℤ → ℕ) (opening : List ℤ) (events : List Event) (items : List Versions)
    (table : List Transaction) (locks : List ItemLocks) (accounts : List Account) : Type 0 where
  pub count : length items ≡ length opening
  pub current : (x : ℕ) → x < length opening → current_at items x ≡ current_value opening events x
  pub committed : (x : ℕ) → x < length opening → committed_at items x ≡ committed_value opening events x
  pub rows : table ≡ transactions_after events
  pub locked : locks ≡ locks_of events (length opening)
  pub books : accounts ≡ books_of d opening events
  pub orderly : IsWellFormed events
