use Rattle.std.proofs.Common.{arith, ◌*◌, ◌≤◌, length, refl}
use Rattle.esr_flow.specs.Augmentation.{AugmentsFrom}
use Rattle.esr_flow.specs.ResidualGraph.{network_arcs, network_of}
use Rattle.esr_flow.proofs.FlowLaws.{Taken, taken}
use Rattle.esr_flow.proofs.MaximumLaws.{takes_on}
use Rattle.esr_flow.proofs.Phases.{bounded_augmentations}
use Rattle.esr_flow.proofs.maximum.run_phases.Goals as goal

pub loop-marks-init : goal.loop-marks-init
loop-marks-init c = (refl, c.requires.value, omega arith, c.requires.entries)

pub run_phase-requires-clause-start : goal.run_phase-requires-clause-start
run_phase-requires-clause-start c =
    let t : Taken (network_of c.args.graph.now) c.args.flow.now c.loop-marks.progress.augmentations c.loop-marks.flow = taken (network_of c.args.graph.now) c.args.graph.now.kept.is_network c.args.flow.now c.requires.start c.loop-marks.progress.augmentations c.loop-marks.flow c.loop-marks.invariant.0 in
    record { is_flow = t.is_flow; amounts = t.amounts_small }

pub run_phase-requires-clause-count : goal.run_phase-requires-clause-count
run_phase-requires-clause-count c =
    let t : Taken (network_of c.args.graph.now) c.args.flow.now c.loop-marks.progress.augmentations c.loop-marks.flow = taken (network_of c.args.graph.now) c.args.graph.now.kept.is_network c.args.flow.now c.requires.start c.loop-marks.progress.augmentations c.loop-marks.flow c.loop-marks.invariant.0 in
    omega (arith, t.count_small, c.loop-marks.invariant.1)

pub loop-marks-smaller : goal.loop-marks-smaller
loop-marks-smaller c =
    let p = c.in_ok-progress-in-Path.progress in
    let joined : AugmentsFrom (network_of c.args.graph.now) c.args.flow.now p.augmentations c.run_phase.new.flow = takes_on (network_of c.args.graph.now) c.args.flow.now c.loop-marks.flow c.run_phase.new.flow c.loop-marks.progress.augmentations p.augmentations c.in_ok-progress-in-Path.ensures.more c.loop-marks.invariant.0 c.in_ok-progress-in-Path.ensures.takes in
    let count_within_max : p.augmentations ≤ c.args.graph.now.node_count * length (network_arcs c.args.graph.now) =
    bounded_augmentations (network_of c.args.graph.now) c.args.graph.now.kept.is_network c.args.flow.now c.requires.start.is_flow.same_length p.augmentations c.run_phase.new.flow joined in
    omega (arith, count_within_max, c.in_ok-progress-in-Path.ensures.more)

pub loop-marks-preserved : goal.loop-marks-preserved
loop-marks-preserved c =
    let p = c.in_ok-progress-in-Path.progress in (
      takes_on (network_of c.args.graph.now) c.args.flow.now c.loop-marks.flow c.run_phase.new.flow c.loop-marks.progress.augmentations p.augmentations c.in_ok-progress-in-Path.ensures.more c.loop-marks.invariant.0 c.in_ok-progress-in-Path.ensures.takes,
      c.in_ok-progress-in-Path.ensures.worth,
      c.in_ok-progress-in-Path.ensures.phases,
      c.in_ok-progress-in-Path.ensures.entries,
    )
