use Rattle.std.proofs.Common.{◌≡◌, ◌≤◌, length, get_or, map}
use Rattle.esr_cert.specs.Adjacency.{IsAdjacencyUpTo}
use Rattle.esr_cert.specs.ChainStarts.{chain_starts_from}
use Rattle.esr_cert.specs.Views.{chain_view}
use Rattle.esr_cert.proofs.adjacency.adjacency_of.Given as goal

abbrev pub invariant-loop-chain : goal.invariant-loop-chain
invariant-loop-chain l = record {
  place : l.begin ≡ get_or (chain_starts_from 0 (map chain_view l.chains)) l.chain-index 0;
  inside : l.begin ≤ length l.arcs;
  adjacency : IsAdjacencyUpTo l.arcs l.node_count l.begin l.adjacency.spans.items l.adjacency.steps.items;
}
