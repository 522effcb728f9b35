use Rattle.std.proofs.Common.{◌≡◌, take, map, flat_map}
use Rattle.esr_audit.specs.Ranges.{numbers_in}
use Rattle.esr_audit.proofs.ranges.txns_of.Given as goal

-- the numbers of the ranges so far
abbrev pub invariant-loop-range : goal.invariant-loop-range
invariant-loop-range l = map (λ t. t.0) l.txns.items ≡ flat_map numbers_in (take l.range-index l.ranges)
