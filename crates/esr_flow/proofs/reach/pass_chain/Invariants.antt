use Rattle.std.proofs.Common.{◌≡◌, ℕ, ◌+◌, ◌<◌, false}
use Rattle.esr_flow.specs.ResidualGraph.{network_arcs, network_of}
use Rattle.esr_flow.specs.Reached.{AreReached, IsKeptOver}
use Rattle.esr_flow.proofs.reach.pass_chain.Given as goal

abbrev pub invariant-loop-j : goal.invariant-loop-j
invariant-loop-j l = record {
  reached : AreReached (network_of l.graph) l.flow l.marks;
  same : l.more ≡ false → l.marks ≡ l.fn.marks;
  kept : l.more ≡ false → (k : ℕ) → k < l.j → IsKeptOver (network_arcs l.graph) l.flow l.marks (l.fn.begin + k);
}
