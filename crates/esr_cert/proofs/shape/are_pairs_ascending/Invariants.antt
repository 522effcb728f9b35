use Rattle.std.proofs.Common.{◌≡◌, ◌-◌, drop}
use Rattle.esr_cert.specs.Problem.{are_pairs_ascending}
use Rattle.esr_cert.proofs.shape.are_pairs_ascending.Given as goal

abbrev pub invariant-loop-i : goal.invariant-loop-i
invariant-loop-i l = are_pairs_ascending (drop (l.i - 1) l.pairs) ≡ are_pairs_ascending l.pairs
