-- Invariants of the accepted events of every legal history: each event's transaction has begun, only updates write,
-- only the last writer of an item can be active, and no transaction ends twice.
use Rattle.std.specs.Prelude.{◌≡◌, ℕ, List, Bool, true, false, ◌==◌, Option, None, Some, if◌then◌else◌}
use Rattle.std.specs.List.{filter_map, list_any, last_or}
use Rattle.esr_history.specs.Events.{writes, is_begun, is_update, is_committed, is_aborted, holds_write, Event, Read, Write, Commit, Abort}

-- whether an event is one of transaction t, after its begin
abbrev pub names : ℕ → Event → Bool
names t (Read u y) = u.0 == t
names t (Write u y v) = u.0 == t
names t (Commit u) = u.0 == t
names t (Abort u) = u.0 == t
names t _ = false

-- the transaction that wrote an item by an event
abbrev pub writer_of : ℕ → Event → Option ℕ
writer_of x (Write u y v) = if y.0 == x then Some u.0 else None
writer_of x _ = None

-- the last transaction that wrote an item
abbrev pub last_writer : List Event → ℕ → Option ℕ
last_writer events x = last_or None (filter_map (writer_of x) events)

pub record IsWellFormed (events : List Event) : Type 0 where
  pub begun : (t : ℕ) → list_any (names t) events ≡ true → is_begun events t ≡ true
  pub writers : (t x : ℕ) → list_any (writes t x) events ≡ true → is_update events t ≡ true
  pub exclusive : (t x : ℕ) → holds_write events t x ≡ true → last_writer events x ≡ Some t
  pub once : (t : ℕ) → is_committed events t ≡ true → is_aborted events t ≡ false
