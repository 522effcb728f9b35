use Rattle.std.proofs.Common.{vec_len, ◌≡◌, ◌≤◌, ◌+◌, ◌-◌, ◌*◌, length}
use Rattle.esr_flow.specs.ResidualGraph.{network_arcs, network_of, AreEntries}
use Rattle.esr_flow.specs.Search.{IsGuided}
use Rattle.esr_flow.proofs.PhaseLaws.{Running}
use Rattle.esr_flow.proofs.maximum.run_phase.Given as goal

abbrev pub invariant-loop-path : goal.invariant-loop-path
invariant-loop-path l =
    Running (network_of l.graph) l.initial.flow l.flow l.labels l.fn.before.augmentations l.augmentations l.worth × IsGuided (network_of l.graph) l.flow l.labels l.path.items × (vec_len l.next ≡ l.graph.node_count) × (l.fn.before.augmentations ≤ l.augmentations) × AreEntries l.graph l.flow l.entries

abbrev pub decreases-loop-path : goal.decreases-loop-path
decreases-loop-path l = l.graph.node_count * length (network_arcs l.graph) + l.fn.before.augmentations - l.augmentations
