use Rattle.std.proofs.Common.{◌≡◌, ◌≢◌, ℕ, ◌<◌, get_or}
use Rattle.esr_flow.proofs.flow_check.is_conserved.Given as goal

abbrev pub invariant-loop-v : goal.invariant-loop-v
invariant-loop-v l = (v : ℕ) → v < l.v → v ≢ l.graph.source → v ≢ l.graph.sink → get_or l.inflows v 0 ≡ get_or l.outflows v 0
