use Rattle.esr_order.proofs.BackwardSearch.{IsSought}
use Rattle.esr_order.proofs.search.relevant_of.Given as goal

-- the relevant updates from the position on, and their accesses
abbrev pub invariant-loop-i : goal.invariant-loop-i
invariant-loop-i g l = IsSought l.history.schedule l.fn.q.0 l.i l.items l.relevant.items
