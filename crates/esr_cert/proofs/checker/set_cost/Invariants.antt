use Rattle.std.proofs.Common.{◌≡◌, ◌≤◌, ◌*◌, take, map, sum_by}
use Rattle.esr_cert.specs.Problem.{chain_cost, in_set}
use Rattle.esr_cert.specs.Views.{chain_view}
use Rattle.esr_cert.proofs.checker.set_cost.Given as goal

abbrev pub invariant-loop-chain : goal.invariant-loop-chain
invariant-loop-chain l = record {
  value : l.sum ≡ sum_by (chain_cost (in_set l.set)) (take l.chain-index (map chain_view l.chains));
  small : l.sum ≤ l.chain-index * 18446744073709551615;
}
