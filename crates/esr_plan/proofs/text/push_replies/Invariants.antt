use Rattle.std.proofs.Common.{◌≡◌, ◌++◌, take}
use Rattle.esr_plan.specs.Calls.{answers_of}
use Rattle.esr_plan.specs.Text.{replies_text}
use Rattle.esr_plan.specs.Tables.{names_in}
use Rattle.esr_plan.proofs.text.push_replies.Given as goal

-- the lines of the replies so far
abbrev pub invariant-loop-i : goal.invariant-loop-i
invariant-loop-i l = l.out.items ≡ l.fn.out.items ++ replies_text (names_in l.names) (take l.i (answers_of l.calls l.replies))
