use Rattle.std.proofs.Common.{arith, ◌+◌, ◌-◌, ◌*◌, ◌≤◌, length, sym, subst, IfSome}
use Rattle.esr_flow.specs.ResidualGraph.{network_arcs, network_of}
use Rattle.esr_flow.specs.Search.{IsGuided}
use Rattle.esr_flow.specs.Maximum.{InArcs}
use Rattle.esr_flow.proofs.FlowLaws.{Taken}
use Rattle.esr_flow.proofs.MaximumLaws.{path_in_arcs}
use Rattle.esr_flow.proofs.PhaseLaws.{Running, run_more, running_flow, running_bounded}
use Rattle.esr_flow.proofs.maximum.run_phase.Goals as goal

pub augment-worth-requires-clause-flow : goal.augment-worth-requires-clause-flow
augment-worth-requires-clause-flow c =
    let t : Taken (network_of c.args.graph.now) c.args.flow.now (c.loop-path.augmentations - c.args.before.augmentations) c.loop-path.flow = running_flow (network_of c.args.graph.now) c.args.graph.now.kept.is_network c.args.flow.now c.loop-path.flow c.args.labels.now c.args.before.augmentations c.loop-path.augmentations c.loop-path.worth c.loop-path.invariant.0 in
    t.is_flow

pub augment-worth-requires-clause-amounts : goal.augment-worth-requires-clause-amounts
augment-worth-requires-clause-amounts c i =
    let t : Taken (network_of c.args.graph.now) c.args.flow.now (c.loop-path.augmentations - c.args.before.augmentations) c.loop-path.flow = running_flow (network_of c.args.graph.now) c.args.graph.now.kept.is_network c.args.flow.now c.loop-path.flow c.args.labels.now c.args.before.augmentations c.loop-path.augmentations c.loop-path.worth c.loop-path.invariant.0 in
    omega (arith, t.amounts_small i, c.requires.small c.loop-path.flow t.is_flow)

pub overflow_add-worth : goal.overflow_add-worth
overflow_add-worth c =
    let r : Running (network_of c.args.graph.now) c.args.flow.now c.augment-worth.new.flow c.args.labels.now c.args.before.augmentations (c.loop-path.augmentations + 1) (c.loop-path.worth + c.augment-worth.result) = run_more (network_of c.args.graph.now) c.args.flow.now c.loop-path.flow c.augment-worth.new.flow c.args.labels.now c.loop-path.path.items c.args.before.augmentations c.loop-path.augmentations c.loop-path.worth c.augment-worth.result c.loop-path.invariant.0 c.loop-path.invariant.1 c.augment-worth.ensures.augments c.augment-worth.ensures.worth in
    let t : Taken (network_of c.args.graph.now) c.args.flow.now ((c.loop-path.augmentations + 1) - c.args.before.augmentations) c.augment-worth.new.flow = running_flow (network_of c.args.graph.now) c.args.graph.now.kept.is_network c.args.flow.now c.augment-worth.new.flow c.args.labels.now c.args.before.augmentations (c.loop-path.augmentations + 1) (c.loop-path.worth + c.augment-worth.result) r in
    omega (arith, r.value_is, c.requires.small c.augment-worth.new.flow t.is_flow)

pub overflow_add-augmentations : goal.overflow_add-augmentations
overflow_add-augmentations c =
    let t : Taken (network_of c.args.graph.now) c.args.flow.now (c.loop-path.augmentations - c.args.before.augmentations) c.loop-path.flow = running_flow (network_of c.args.graph.now) c.args.graph.now.kept.is_network c.args.flow.now c.loop-path.flow c.args.labels.now c.args.before.augmentations c.loop-path.augmentations c.loop-path.worth c.loop-path.invariant.0 in
    omega (arith, t.count_small, c.requires.count, c.requires.worth, c.requires.small c.loop-path.flow t.is_flow)

pub overflow_add-result : goal.overflow_add-result
overflow_add-result c =
    let t : Taken (network_of c.args.graph.now) c.args.flow.now (c.loop-path.augmentations - c.args.before.augmentations) c.loop-path.flow = running_flow (network_of c.args.graph.now) c.args.graph.now.kept.is_network c.args.flow.now c.loop-path.flow c.args.labels.now c.args.before.augmentations c.loop-path.augmentations c.loop-path.worth c.loop-path.invariant.0 in
    omega (arith, c.requires.phases, c.requires.count, c.requires.worth, t.count_small, c.requires.small c.loop-path.flow t.is_flow)

pub put_back-requires-clause-path : goal.put_back-requires-clause-path
put_back-requires-clause-path c =
    subst (λ path. InArcs (network_arcs c.args.graph.now) path) (sym c.deref-in-loop-path.ensures.value)
    (path_in_arcs (network_arcs c.args.graph.now) c.loop-path.flow c.loop-path.path.items c.args.graph.now.source c.args.graph.now.sink c.loop-path.invariant.1.is_shortest_path.is_path)

pub next_path-requires-clause-flow : goal.next_path-requires-clause-flow
next_path-requires-clause-flow c =
    let r : Running (network_of c.args.graph.now) c.args.flow.now c.augment-worth.new.flow c.args.labels.now c.args.before.augmentations (c.loop-path.augmentations + 1) (c.loop-path.worth + c.augment-worth.result) = run_more (network_of c.args.graph.now) c.args.flow.now c.loop-path.flow c.augment-worth.new.flow c.args.labels.now c.loop-path.path.items c.args.before.augmentations c.loop-path.augmentations c.loop-path.worth c.augment-worth.result c.loop-path.invariant.0 c.loop-path.invariant.1 c.augment-worth.ensures.augments c.augment-worth.ensures.worth in
    let t : Taken (network_of c.args.graph.now) c.args.flow.now ((c.loop-path.augmentations + 1) - c.args.before.augmentations) c.augment-worth.new.flow = running_flow (network_of c.args.graph.now) c.args.graph.now.kept.is_network c.args.flow.now c.augment-worth.new.flow c.args.labels.now c.args.before.augmentations (c.loop-path.augmentations + 1) (c.loop-path.worth + c.augment-worth.result) r in
    t.is_flow.same_length

pub next_path-requires-clause-guides : goal.next_path-requires-clause-guides
next_path-requires-clause-guides c =
    let r : Running (network_of c.args.graph.now) c.args.flow.now c.augment-worth.new.flow c.args.labels.now c.args.before.augmentations (c.loop-path.augmentations + 1) (c.loop-path.worth + c.augment-worth.result) = run_more (network_of c.args.graph.now) c.args.flow.now c.loop-path.flow c.augment-worth.new.flow c.args.labels.now c.loop-path.path.items c.args.before.augmentations c.loop-path.augmentations c.loop-path.worth c.augment-worth.result c.loop-path.invariant.0 c.loop-path.invariant.1 c.augment-worth.ensures.augments c.augment-worth.ensures.worth in
    r.guides

pub loop-path-smaller : goal.loop-path-smaller
loop-path-smaller c =
    let r : Running (network_of c.args.graph.now) c.args.flow.now c.augment-worth.new.flow c.args.labels.now c.args.before.augmentations (c.loop-path.augmentations + 1) (c.loop-path.worth + c.augment-worth.result) = run_more (network_of c.args.graph.now) c.args.flow.now c.loop-path.flow c.augment-worth.new.flow c.args.labels.now c.loop-path.path.items c.args.before.augmentations c.loop-path.augmentations c.loop-path.worth c.augment-worth.result c.loop-path.invariant.0 c.loop-path.invariant.1 c.augment-worth.ensures.augments c.augment-worth.ensures.worth in
    let count_within_max : c.loop-path.augmentations + 1 ≤ c.args.graph.now.node_count * length (network_arcs c.args.graph.now) + c.args.before.augmentations = running_bounded (network_of c.args.graph.now) c.args.graph.now.kept.is_network c.args.flow.now c.augment-worth.new.flow c.args.labels.now c.args.before.augmentations (c.loop-path.augmentations + 1) (c.loop-path.worth + c.augment-worth.result) r in
    omega arith

pub loop-path-preserved : goal.loop-path-preserved
loop-path-preserved c =
    let r : Running (network_of c.args.graph.now) c.args.flow.now c.augment-worth.new.flow c.args.labels.now c.args.before.augmentations (c.loop-path.augmentations + 1) (c.loop-path.worth + c.augment-worth.result) = run_more (network_of c.args.graph.now) c.args.flow.now c.loop-path.flow c.augment-worth.new.flow c.args.labels.now c.loop-path.path.items c.args.before.augmentations c.loop-path.augmentations c.loop-path.worth c.augment-worth.result c.loop-path.invariant.0 c.loop-path.invariant.1 c.augment-worth.ensures.augments c.augment-worth.ensures.worth in
    let p : IsGuided (network_of c.args.graph.now) c.augment-worth.new.flow c.args.labels.now c.in-Some.found.items = subst (λ o. IfSome o (λ path. IsGuided (network_of c.args.graph.now) c.augment-worth.new.flow c.args.labels.now path.items)) c.in-Some.is c.in_ok-next_path.ensures in
    (r, p, c.loop-path.invariant.2, omega (arith, c.loop-path.invariant.3), c.augment-worth.ensures.entries)

pub returns-in-None-clause-takes : goal.returns-in-None-clause-takes
returns-in-None-clause-takes c =
    let r : Running (network_of c.args.graph.now) c.args.flow.now c.augment-worth.new.flow c.args.labels.now c.args.before.augmentations (c.loop-path.augmentations + 1) (c.loop-path.worth + c.augment-worth.result) = run_more (network_of c.args.graph.now) c.args.flow.now c.loop-path.flow c.augment-worth.new.flow c.args.labels.now c.loop-path.path.items c.args.before.augmentations c.loop-path.augmentations c.loop-path.worth c.augment-worth.result c.loop-path.invariant.0 c.loop-path.invariant.1 c.augment-worth.ensures.augments c.augment-worth.ensures.worth in
    r.takes
