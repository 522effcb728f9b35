use Rattle.std.proofs.Common.{◌≡◌, ◌+◌, ◌<◌, length}
use Rattle.esr_grammar.specs.Lines.{lines}
use Rattle.esr_plan.specs.Plan.{plan_from, nothing}
use Rattle.esr_plan.specs.Drafts.{IsSound, plan_in}
use Rattle.esr_plan.proofs.draft.draft_of.Given as goal

-- the remaining lines extend the plan to that of all lines
abbrev pub invariant-loop-line : goal.invariant-loop-line
invariant-loop-line l =
    IsSound l.draft
    × (length l.draft.begun < l.number)
    × (l.number + length (lines l.unread) ≡ 1 + length (lines l.bytes))
    × (plan_from l.number (plan_in l.draft) (lines l.unread) ≡ plan_from 1 nothing (lines l.bytes))

abbrev pub decreases-loop-line : goal.decreases-loop-line
decreases-loop-line l = length l.unread
