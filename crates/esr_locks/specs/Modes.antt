-- In which modes an item is locked, and which of them exclude each other.
use Rattle.std.specs.Prelude.{Bool, true, false}
pub use Rattle.esr_locks.specs.declared.mode.Mode.{Mode}
pub use Rattle.esr_locks.specs.declared.mode.Mode.TheVariants.{Read, Write, QueryRead}

-- whether a held lock of one mode conflicts with a request of another transaction for the other mode
abbrev pub conflicts : Mode → Mode → Bool
conflicts Read Write = true
conflicts Write Read = true
conflicts Write Write = true
conflicts _ _ = false
