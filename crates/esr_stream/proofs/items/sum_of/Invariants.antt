use Rattle.std.proofs.Common.{◌≡◌, take}
use Rattle.esr_stream.specs.Passes.{amounts_sum, loans_sum}
use Rattle.esr_stream.proofs.items.sum_of.Given as goal

abbrev pub invariant-loop-state : goal.invariant-loop-state
invariant-loop-state l = record {
  amounts : l.amounts ≡ amounts_sum (take l.state-index l.states);
  loans : l.loans ≡ loans_sum (take l.state-index l.states);
}
