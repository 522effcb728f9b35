use Rattle.std.proofs.Common.{◌≡◌, ◌+◌, ◌<◌, ℕ, length, take, slice_index_or}
use Rattle.esr_history.specs.Imports.{imported}
use Rattle.esr_history.proofs.imports.add_charges.Given as goal

-- the sums of the charges so far
abbrev pub invariant-loop-charge : goal.invariant-loop-charge
invariant-loop-charge l = (length l.imports ≡ length l.initial.imports)
    × ((t : ℕ) → t < length l.initial.imports → slice_index_or l.imports t 0 ≡ slice_index_or l.initial.imports t 0 + imported (take l.charge-index l.charges) t)
