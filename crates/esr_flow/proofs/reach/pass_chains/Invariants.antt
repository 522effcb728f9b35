use Rattle.std.proofs.Common.{◌≡◌, ℕ, ◌<◌, false, get_or}
use Rattle.esr_cert.specs.ChainStarts.{chain_starts_from}
use Rattle.esr_flow.specs.ResidualGraph.{network_arcs, network_of}
use Rattle.esr_flow.specs.Reached.{AreReached, IsKeptOver}
use Rattle.esr_flow.proofs.reach.pass_chains.Given as goal

abbrev pub invariant-loop-chain : goal.invariant-loop-chain
invariant-loop-chain l = record {
  place : l.begin ≡ get_or (chain_starts_from 0 l.graph.problem.now.chains) l.chain-index 0;
  reached : AreReached (network_of l.graph) l.flow l.marks;
  same : l.more ≡ false → l.marks ≡ l.fn.marks;
  kept : l.more ≡ false → (k : ℕ) → k < l.begin → IsKeptOver (network_arcs l.graph) l.flow l.marks k;
}
