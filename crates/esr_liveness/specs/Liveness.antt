-- The transactions that block an event, and three laws about them.
use Rattle.std.specs.Prelude.{◌≡◌, ℕ, List, [], Bool, true, not, ◌&&◌, ◌||◌, ◌==◌, Option, None, Some, filter, if◌then◌else◌}
use Rattle.esr_base.specs.declared.numbers.TxnId.{TxnId}
use Rattle.esr_history.specs.declared.event.Event.{Event}
use Rattle.esr_history.specs.declared.event.Event.TheVariants.{Read, Write, Commit, Abort}
use Rattle.esr_history.specs.declared.event.Reply.{Reply}
use Rattle.esr_history.specs.declared.event.Reply.TheVariants.{Refused, Committed, Aborted}
use Rattle.esr_history.specs.Events.{is_active, is_query, is_update, holds_read, holds_write, txn_numbers}
use Rattle.esr_history.specs.Machine.{DistanceFunction, Schedule, accepted_in, extended, reply_to}
use Rattle.esr_history.specs.WellFormed.{names}
use Rattle.esr_history.specs.Refusals.{refusal_blocker}

-- the transaction that a reply names as the one that blocks the event: the lock holder, or the owner of the limit
abbrev pub blocker_in : Reply → Option TxnId
blocker_in (Refused why) = refusal_blocker why
blocker_in _ = None

-- no other transaction is active
abbrev pub IsAlone : Schedule → ℕ → Type 0
IsAlone h t = (u : ℕ) → is_active (accepted_in h) u ≡ true → u ≡ t

abbrev pub LawOfLoneUpdates : Type 0
LawOfLoneUpdates = (d : DistanceFunction) (h : Schedule) (e : Event) (t : ℕ) → names t e ≡ true
    → is_update (accepted_in h) t ≡ true → IsAlone h t → blocker_in (reply_to d h e) ≡ None

-- whether an update other than t holds the write lock on item x, or either lock
abbrev pub has_written : List Event → ℕ → ℕ → ℕ → Bool
has_written events t x u = not (u == t) && (is_update events u && holds_write events u x)

abbrev pub has_locked : List Event → ℕ → ℕ → ℕ → Bool
has_locked events t x u = not (u == t) && (is_update events u && (holds_read events u x || holds_write events u x))

-- the lock holders in the way of an event, by ascending numbers
abbrev pub holders_against : List Event → Event → List ℕ
holders_against events (Read t x) = if is_query events t.0 then [] else filter (has_written events t.0 x.0) (txn_numbers events)
holders_against events (Write t x v) = filter (has_locked events t.0 x.0) (txn_numbers events)
holders_against events _ = []

abbrev pub LawOfBlockers : Type 0
LawOfBlockers = (d : DistanceFunction) (h : Schedule) (e : Event) (u : TxnId) → blocker_in (reply_to d h e) ≡ Some u
    → is_active (accepted_in h) u.0 ≡ true

-- The transaction ends by this event.
abbrev pub IsEndOf : TxnId → Event → Reply → Type 0
IsEndOf u (Commit t) Committed = t ≡ u
IsEndOf u (Abort t) Aborted = t ≡ u
IsEndOf u _ _ = ⊥

pub record Frees (d : DistanceFunction) (h : Schedule) (u : TxnId) : Type 0 where
  pub aborts : reply_to d h (Abort u) ≡ Aborted
  pub frees : (end : Event) (reply : Reply) (e : Event) → IsEndOf u end reply
      → holders_against (accepted_in (extended h end reply)) e
      ≡ filter (λ w. not (u.0 == w)) (holders_against (accepted_in h) e)

abbrev pub LawOfEnds : Type 0
LawOfEnds = (d : DistanceFunction) (h : Schedule) (u : TxnId) → is_active (accepted_in h) u.0 ≡ true → Frees d h u
