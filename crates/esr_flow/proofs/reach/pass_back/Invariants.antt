use Rattle.std.proofs.Common.{◌≡◌, ℕ, ◌<◌, ◌≤◌, false, length}
use Rattle.esr_flow.specs.ResidualGraph.{network_arcs, network_of}
use Rattle.esr_flow.specs.Reached.{AreReached, IsKeptOver}
use Rattle.esr_flow.proofs.reach.pass_back.Given as goal

abbrev pub invariant-loop-i : goal.invariant-loop-i
invariant-loop-i l = record {
  reached : AreReached (network_of l.graph) l.flow l.marks;
  same : l.more ≡ false → l.marks ≡ l.fn.marks;
  kept : l.more ≡ false → (k : ℕ) → l.i ≤ k → k < length (network_arcs l.graph) → IsKeptOver (network_arcs l.graph) l.flow l.marks k;
}
