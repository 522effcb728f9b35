-- Whether a history has capacity for an event, with one entry reserved for the end of each active transaction. So an active
-- transaction can always commit or abort.
use Rattle.std.specs.Prelude.{◌≡◌, ◌+◌, ◌-◌, ◌≤◌, ℕ, Bool, true, false, not, ◌&&◌, ◌||◌, nat_le, nat_lt, List, length, count_by}
use Rattle.esr_base.specs.declared.limits.TheConstants.{MAX_ENTRIES, MAX_TRANSACTIONS}
use Rattle.esr_base.specs.declared.numbers.TxnId.{TxnId}
use Rattle.esr_history.specs.declared.event.Event.{Event}
use Rattle.esr_history.specs.declared.event.Reply.{Reply}
use Rattle.esr_history.specs.declared.event.Event.TheVariants.{BeginUpdate, BeginQuery, Commit, Abort}
use Rattle.esr_history.specs.declared.event.Reply.TheVariants.{Begun, Committed, Aborted}
use Rattle.esr_history.specs.Events.{begin_records, txn_numbers, is_active}
use Rattle.esr_history.specs.Machine.{DistanceFunction, Schedule, accepted_in, reply_to}
use Rattle.esr_engine.specs.declared.engine.EngineCounts.{EngineCounts}

-- how many transactions are active
abbrev pub active_count : List Event → ℕ
active_count events = count_by (is_active events) (txn_numbers events)

-- the number of entries, plus one for the end of each active transaction
abbrev pub taken : Schedule → ℕ
taken h = length h.entries + active_count (accepted_in h)

-- how many transactions have begun
abbrev pub transaction_count : Schedule → ℕ
transaction_count h = length (begin_records (accepted_in h))

-- whether there is no capacity for a begin, which needs an entry, another one for the end of the transaction, and a
-- transaction number
abbrev pub no_begin : Schedule → Bool
no_begin h = nat_lt MAX_ENTRIES (taken h + 2) || nat_le MAX_TRANSACTIONS (transaction_count h)

-- whether the history has no capacity for an event; the end of an active transaction always fits, as an entry is reserved for
-- it
abbrev pub is_full : Schedule → Event → Bool
is_full h (BeginUpdate limit) = no_begin h
is_full h (BeginQuery limit strict) = no_begin h
is_full h (Commit t) = not (is_active (accepted_in h) t.0) && nat_le MAX_ENTRIES (taken h)
is_full h (Abort t) = not (is_active (accepted_in h) t.0) && nat_le MAX_ENTRIES (taken h)
is_full h _ = nat_le MAX_ENTRIES (taken h)

-- There is an entry left for the end of each active transaction, and both its commit and its abort would be accepted.
pub record HasReservedEnds (d : DistanceFunction) (h : Schedule) : Type 0 where
  pub capacity : taken h ≤ MAX_ENTRIES
  pub fits : (t : TxnId) → is_active (accepted_in h) t.0 ≡ true → (is_full h (Commit t) ≡ false) × (is_full h (Abort t) ≡ false)
  pub commits : (t : TxnId) → is_active (accepted_in h) t.0 ≡ true → reply_to d h (Commit t) ≡ Committed
  pub aborts : (t : TxnId) → is_active (accepted_in h) t.0 ≡ true → reply_to d h (Abort t) ≡ Aborted

-- the size of a history, and the capacity left
abbrev pub counts_of : Schedule → EngineCounts
counts_of h = record {
  entries = length h.entries;
  transactions = transaction_count h;
  active = active_count (accepted_in h);
  entries_left = MAX_ENTRIES - taken h;
  transactions_left = MAX_TRANSACTIONS - transaction_count h;
}

-- how many transactions are active after a reply
abbrev pub active_after : ℕ → Reply → ℕ
active_after n (Begun t) = n + 1
active_after n Committed = n - 1
active_after n Aborted = n - 1
active_after n _ = n

-- whether a reply ends a transaction
abbrev pub is_end : Reply → Bool
is_end Committed = true
is_end Aborted = true
is_end _ = false
