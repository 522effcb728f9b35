use Rattle.std.proofs.Common.{◌≡◌, map, take}
use Rattle.esr_explore.specs.Severity.{amount_of, greatest}
use Rattle.esr_explore.proofs.summary.greatest.Given as goal

-- it is the maximum over the queries so far
abbrev pub invariant-loop-inconsistency : goal.invariant-loop-inconsistency
invariant-loop-inconsistency l = l.greatest ≡ greatest (map (amount_of l.measure) (take l.inconsistency-index l.inconsistencies))
