use Rattle.std.proofs.Common.{map, take}
use Rattle.esr_explore.specs.Severity.{severity_of}
use Rattle.esr_explore.proofs.Greatest.{IsFirst}
use Rattle.esr_explore.proofs.summary.worst_run.Given as goal

-- it is the first of the greatest of the runs so far
abbrev pub invariant-loop-i : goal.invariant-loop-i
invariant-loop-i l = IsFirst (map (severity_of l.measure) (take l.i l.summaries)) l.worst l.greatest_severity
