use Rattle.std.proofs.Common.{◌≡◌, ◌++◌, drop, map, take, length, sum_by}
use Rattle.esr_cert.specs.ChainStarts.{chain_starts_from}
use Rattle.esr_cert.specs.Views.{chain_view}
use Rattle.esr_cert.proofs.chain_starts.chain_starts_of.Given as goal

abbrev pub invariant-loop-chain : goal.invariant-loop-chain
invariant-loop-chain l = record {
  list : l.chain_starts.items ++ chain_starts_from l.next (map chain_view (drop l.chain-index l.chains)) ≡ chain_starts_from 0 (map chain_view l.chains);
  next : l.next ≡ sum_by (λ chain. length chain.costs.items) (take l.chain-index l.chains);
}
