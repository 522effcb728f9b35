use Rattle.std.proofs.Common.{◌≡◌, ◌≤◌, ◌*◌, take, map, length, sum_by}
use Rattle.esr_cert.specs.Views.{chain_view}
use Rattle.esr_cert.proofs.arcs.chain_arc_count.Given as goal

abbrev pub invariant-loop-chain : goal.invariant-loop-chain
invariant-loop-chain l = record {
  value : l.count ≡ sum_by (λ chain. length chain.costs) (take l.chain-index (map chain_view l.chains));
  small : l.count ≤ l.chain-index * 9223372036854775808;
}
