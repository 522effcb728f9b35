use Rattle.std.proofs.Common.{◌≡◌, ◌*◌, ◌≤◌, take, map, sum_by}
use Rattle.esr_cert.specs.Problem.{greatest}
use Rattle.esr_cert.specs.Views.{chain_view}
use Rattle.esr_cert.proofs.range.greatest_costs.Given as goal

abbrev pub invariant-loop-chain : goal.invariant-loop-chain
invariant-loop-chain l = (l.sum ≡ sum_by (λ k. greatest k.costs) (take l.chain-index (map chain_view l.chains))) × (l.sum ≤ l.chain-index * 18446744073709551615)
