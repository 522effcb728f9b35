-- A read of an item by an update that is going to write it: the write lock first, by a write of the value that the item
-- has, and then the read.
use Rattle.std.specs.Prelude.{◌≡◌, ◌+◌, ◌⊎◌, ◌==◌, ◌&&◌, ℕ, pos, Bool, true, false, nat_lt, length, option_map, unwrap_or, if◌then◌else◌, ⊤}
use Rattle.esr_items.specs.Weights.{weighted}
use Rattle.esr_base.specs.declared.limits.TheConstants.{MAX_ENTRIES}
use Rattle.esr_base.specs.declared.numbers.ItemId.{ItemId}
use Rattle.esr_base.specs.declared.numbers.TxnId.{TxnId}
use Rattle.esr_history.specs.declared.event.Event.{Event}
use Rattle.esr_history.specs.declared.event.Reply.{Reply}
use Rattle.esr_history.specs.declared.event.Event.TheVariants.{Read, Write}
use Rattle.esr_history.specs.declared.event.Reply.TheVariants.{Value}
use Rattle.esr_history.specs.Events.{is_refusal, holds_write, committed_value, current_value}
use Rattle.esr_history.specs.Machine.{Schedule, accepted_in, extended, reply_to, writer}
use Rattle.esr_engine.specs.Capacity.{taken}

-- the history after an event and the machine's reply
abbrev pub after : Schedule → Event → Schedule
after h e = extended h e (reply_to weighted h e)

-- whether a transaction holds the write lock on an item
abbrev pub has_lock : Schedule → ℕ → ℕ → Bool
has_lock h t x = nat_lt x (length h.opening) && unwrap_or (option_map (λ u. u == t) (writer (accepted_in h) x)) false

-- the write that takes the lock, with the committed value, which is the current one if no transaction holds the lock
abbrev pub lock_event : Schedule → TxnId → ItemId → Event
lock_event h t x = Write t x (if nat_lt x.0 (length h.opening) then committed_value h.opening (accepted_in h) x.0 else pos 0)

-- the history before the read, or at the end if the lock is refused
abbrev pub locked : Schedule → TxnId → ItemId → Schedule
locked h t x = if has_lock h t.0 x.0 then h else after h (lock_event h t x)

-- whether the lock is refused
abbrev pub lock_refused : Schedule → TxnId → ItemId → Bool
lock_refused h t x = if has_lock h t.0 x.0 then false else is_refusal (reply_to weighted h (lock_event h t x))

-- the reply to the write if it is refused, else to the read
abbrev pub reply_for_update : Schedule → TxnId → ItemId → Reply
reply_for_update h t x =
    if lock_refused h t x then reply_to weighted h (lock_event h t x) else reply_to weighted (locked h t x) (Read t x)

-- the history afterwards
abbrev pub after_for_update : Schedule → TxnId → ItemId → Schedule
after_for_update h t x = if lock_refused h t x then locked h t x else after (locked h t x) (Read t x)

-- a value that was read is the current one, and its reader holds the write lock on the item
abbrev pub IsHeldValue : Schedule → Schedule → TxnId → ItemId → Reply → Type 0
IsHeldValue old new t x (Value v) = (v ≡ current_value old.opening (accepted_in old) x.0) × (holds_write (accepted_in new) t.0 x.0 ≡ true)
IsHeldValue old new t x _ = ⊤

-- fewer than two entries are left in addition to the reserved ends
abbrev pub no_pair : Schedule → Bool
no_pair h = nat_lt MAX_ENTRIES (taken h + 2)

-- after a failed allocation nothing has changed, except that the lock may have been taken
abbrev pub IsPartlyDone : Schedule → Schedule → TxnId → ItemId → Type 0
IsPartlyDone old new t x = (new ≡ old) ⊎ (new ≡ locked old t x)
