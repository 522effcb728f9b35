use Rattle.std.proofs.Common.{◌≡◌, ◌++◌, drop, map}
use Rattle.esr_cert.specs.ChainStarts.{chain_by_arc_from}
use Rattle.esr_cert.specs.Views.{chain_view}
use Rattle.esr_cert.proofs.chain_starts.chain_by_arc_of.Given as goal

abbrev pub invariant-loop-k : goal.invariant-loop-k
invariant-loop-k l = l.chain_by_arc.items ++ chain_by_arc_from l.k (map chain_view (drop l.k l.chains)) ≡ chain_by_arc_from 0 (map chain_view l.chains)
