use Rattle.std.proofs.Common.{◌≡◌, ◌≤◌, ◌*◌, take}
use Rattle.esr_order.specs.ReadValues.{distance_sum}
use Rattle.esr_order.proofs.read_values.distance_to.Given as goal

abbrev pub invariant-loop-value : goal.invariant-loop-value
invariant-loop-value g l =
    (l.sum ≡ distance_sum (g.M.Metric.distance_by (g.M.Metric.weights l.metric)) l.x.0 (take l.value-index l.values) l.version)
    × (l.sum ≤ l.value-index * 2000000000000000)
