use Rattle.std.proofs.Common.{◌≡◌, ◌++◌, take, map, flat_map}
use Rattle.esr_audit.specs.Ranges.{numbers_in}
use Rattle.esr_audit.proofs.ranges.ranges_of.Given as goal

-- the numbers so far
abbrev pub invariant-loop-t : goal.invariant-loop-t
invariant-loop-t l = flat_map numbers_in l.ranges.items ++ numbers_in l.last ≡ map (λ t. t.0) (take l.t-index l.txns)
