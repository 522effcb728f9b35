use Rattle.std.proofs.Common.{◌≡◌, sum, take}
use Rattle.esr_explore.specs.Turns.{saturated_u64}
use Rattle.esr_explore.proofs.summary.sum_of.Given as goal

abbrev pub invariant-loop-count : goal.invariant-loop-count
invariant-loop-count l = l.sum ≡ saturated_u64 (sum (take l.count-index l.counts))
