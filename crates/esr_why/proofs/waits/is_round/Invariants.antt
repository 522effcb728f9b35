use Rattle.std.proofs.Common.{◌≡◌, ◌∷◌, ◌++◌, [], take, map}
use Rattle.esr_why.proofs.waits.is_round.Given as goal

abbrev pub invariant-loop-wait : goal.invariant-loop-wait
invariant-loop-wait l =
    l.first.txn ∷ map (λ w. w.holder) (take l.wait-index l.waits)
    ≡ map (λ w. w.txn) (take l.wait-index l.waits) ++ l.next ∷ []
