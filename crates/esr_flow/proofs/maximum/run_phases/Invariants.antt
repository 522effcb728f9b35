use Rattle.std.proofs.Common.{◌≡◌, ◌-◌, ◌*◌, ◌≤◌, length}
use Rattle.esr_flow.specs.Augmentation.{AugmentsFrom}
use Rattle.esr_cert.specs.Flow.{worth}
use Rattle.esr_flow.specs.ResidualGraph.{network_arcs, network_of, AreEntries}
use Rattle.esr_flow.proofs.maximum.run_phases.Given as goal

abbrev pub invariant-loop-marks : goal.invariant-loop-marks
invariant-loop-marks l = AugmentsFrom (network_of l.graph) l.initial.flow l.progress.augmentations l.flow × (l.progress.worth ≡ worth (network_of l.graph) l.flow) × (l.progress.phases ≤ l.progress.augmentations) × AreEntries l.graph l.flow l.entries

abbrev pub decreases-loop-marks : goal.decreases-loop-marks
decreases-loop-marks l = l.graph.node_count * length (network_arcs l.graph) - l.progress.augmentations
