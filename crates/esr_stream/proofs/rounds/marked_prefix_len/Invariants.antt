use Rattle.esr_stream.specs.Passes.{IsPrefixMarked}
use Rattle.esr_stream.proofs.rounds.marked_prefix_len.Given as goal

abbrev pub invariant-loop-i : goal.invariant-loop-i
invariant-loop-i l = IsPrefixMarked l.i l.marks
