use Rattle.std.proofs.Common.{◌≡◌, take}
use Rattle.esr_outcomes.specs.ValuesAfter.{apply_accesses}
use Rattle.esr_outcomes.proofs.values.apply_accesses.Given as goal

-- the values after the accesses so far
abbrev pub invariant-loop-access : goal.invariant-loop-access
invariant-loop-access l = l.values.items ≡ apply_accesses l.initial.values.items (take l.access-index l.accesses)
