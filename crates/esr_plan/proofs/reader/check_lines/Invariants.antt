use Rattle.std.proofs.Common.{◌-◌, length}
use Rattle.esr_plan.specs.Readings.{IsMark}
use Rattle.esr_plan.proofs.reader.check_lines.Given as goal

-- the lines before the mark may be read
abbrev pub invariant-loop-len : goal.invariant-loop-len
invariant-loop-len l = IsMark l.bytes l.mark

abbrev pub decreases-loop-len : goal.decreases-loop-len
decreases-loop-len l = length l.bytes - l.mark.start
