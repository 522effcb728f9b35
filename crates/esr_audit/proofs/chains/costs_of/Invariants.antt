use Rattle.std.proofs.Common.{◌≡◌, ◌∷◌, take, map}
use Rattle.esr_audit.specs.Reads.{distance_sum}
use Rattle.esr_audit.proofs.chains.costs_of.Given as goal

abbrev pub invariant-loop-version : goal.invariant-loop-version
invariant-loop-version g l = l.costs.items ≡ map (distance_sum (g.M.Metric.distance_by (g.M.Metric.weights l.metric)) l.x.0 l.values) (l.fn.opening ∷ take l.version-index l.versions)
