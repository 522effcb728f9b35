-- The lock by which an update keeps an event back.
use Rattle.std.specs.Prelude.{ℕ, Option, None, Some, ◌==◌, if◌then◌else◌}
use Rattle.esr_history.specs.declared.event.Event.{Event}
use Rattle.esr_history.specs.declared.event.Event.TheVariants.{Read, Write}
use Rattle.esr_history.specs.Machine.{Schedule, accepted_in, writer}
use Rattle.esr_why.specs.declared.locks.Lock.{Lock}
use Rattle.esr_why.specs.declared.locks.Lock.TheVariants as lock

-- the write lock, if `holder` is the item's writer
abbrev pub lock_by : Option ℕ → ℕ → Lock
lock_by None holder = lock.Read
lock_by (Some u) holder = if u == holder then lock.Write else lock.Read

abbrev pub lock_in_way : Schedule → Event → ℕ → Lock
lock_in_way h (Read t x) holder = lock_by (writer (accepted_in h) x.0) holder
lock_in_way h (Write t x v) holder = lock_by (writer (accepted_in h) x.0) holder
lock_in_way h _ holder = lock.Read
