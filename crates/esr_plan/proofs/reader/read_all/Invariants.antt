use Rattle.std.proofs.Common.{◌≡◌, ◌<◌, false, None, length}
use Rattle.std.specs.Io.KnownBytes.{Consumes}
use Rattle.esr_base.specs.Watch.{inner, failed}
use Rattle.esr_grammar.specs.Lines.{lines}
use Rattle.esr_plan.specs.Plan.{line_limit_fault}
use Rattle.esr_plan.specs.Readings.{IsMark, rest_from}
use Rattle.esr_plan.proofs.reader.read_all.Given as goal

-- the bytes are those that were read, and no line so far ends the reading
abbrev pub invariant-loop : goal.invariant-loop
invariant-loop g l =
    (failed l.reader ≡ false)
    × (0 < length l.chunk.items)
    × Consumes (g.R.Read.remaining (inner l.fn.reader)) (g.R.Read.remaining (inner l.reader)) l.bytes.items
    × IsMark l.bytes.items l.mark
    × (line_limit_fault l.mark.lines (lines (rest_from l.bytes.items l.mark)) ≡ None)
