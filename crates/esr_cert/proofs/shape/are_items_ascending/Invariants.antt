use Rattle.std.proofs.Common.{◌≡◌, ◌-◌, drop, map}
use Rattle.esr_cert.specs.Problem.{is_strictly_ascending}
use Rattle.esr_cert.specs.ProblemDrafts.{drafted_chain}
use Rattle.esr_cert.proofs.shape.are_items_ascending.Given as goal

abbrev pub invariant-loop-i : goal.invariant-loop-i
invariant-loop-i l = is_strictly_ascending (drop (l.i - 1) (map (λ k. k.item) (map drafted_chain l.chains))) ≡ is_strictly_ascending (map (λ k. k.item) (map drafted_chain l.chains))
