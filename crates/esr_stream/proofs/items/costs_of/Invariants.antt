use Rattle.std.proofs.Common.{◌≡◌, take}
use Rattle.esr_stream.specs.Passes.{costs_sum}
use Rattle.esr_stream.proofs.items.costs_of.Given as goal

abbrev pub invariant-loop-state : goal.invariant-loop-state
invariant-loop-state l = l.sum ≡ costs_sum (take l.state-index l.states)
