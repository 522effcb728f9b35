use Rattle.std.proofs.Common.{◌≡◌, ◌≤◌, length, drop}
use Rattle.esr_plan.specs.Calls.{answers_of}
use Rattle.esr_plan.specs.Tables.{names_in, noted}
use Rattle.esr_plan.proofs.table.BegunNames.note_block.Given as goal

-- the names of the lines from i on were taken down
abbrev pub invariant-loop-i : goal.invariant-loop-i
invariant-loop-i l =
    (l.i ≤ length l.calls)
    × (names_in l.self ≡ noted (answers_of (drop l.i l.calls) (drop l.i l.replies)) (names_in l.fn.self))

abbrev pub decreases-loop-i : goal.decreases-loop-i
decreases-loop-i l = l.i
