use Rattle.std.proofs.Common.{◌≡◌, Some, ◌∙◌, ap}
use Rattle.esr_cert.specs.Network.{Network}
use Rattle.esr_cert.specs.Flow.{worth}
use Rattle.esr_flow.specs.Residual.{bottleneck, raise}
use Rattle.esr_flow.specs.Augmentation.{Augments}
use Rattle.esr_flow.specs.ResidualGraph.{network_arcs, network_of}
use Rattle.esr_flow.proofs.FlowLaws.{After, augmented}
use Rattle.esr_flow.proofs.MaximumLaws.{path_in_arcs, raise_fits, augments}
use Rattle.esr_flow.proofs.maximum.augment.Goals as goal

pub bottleneck_of-requires-clause-path : goal.bottleneck_of-requires-clause-path
bottleneck_of-requires-clause-path c =
    path_in_arcs (network_arcs c.args.graph.now) c.args.flow.now c.args.path.now c.args.graph.now.source c.args.graph.now.sink c.requires.path.is_path

pub raise_along-requires-clause-arc_in_range : goal.raise_along-requires-clause-arc_in_range
raise_along-requires-clause-arc_in_range c =
    path_in_arcs (network_arcs c.args.graph.now) c.args.flow.now c.args.path.now c.args.graph.now.source c.args.graph.now.sink c.requires.path.is_path

pub raise_along-requires-clause-fits : goal.raise_along-requires-clause-fits
raise_along-requires-clause-fits c =
    let least : bottleneck (network_arcs c.args.graph.now) c.args.flow.now c.args.path.now ≡ Some c.in-Some.amount = cc (c.in-Some.is, c.bottleneck_of.ensures) in
    raise_fits (network_of c.args.graph.now) c.args.graph.now.kept.is_network c.args.flow.now c.args.path.now c.in-Some.amount c.requires.flow c.requires.amounts c.requires.small c.requires.path least

pub returns-clause-worth : goal.returns-clause-worth
returns-clause-worth c =
    let net : Network = network_of c.args.graph.now in
    let least : bottleneck (network_arcs c.args.graph.now) c.args.flow.now c.args.path.now ≡ Some c.in-Some.amount = cc (c.in-Some.is, c.bottleneck_of.ensures) in
    let a : Augments net c.args.flow.now (raise c.args.flow.now c.in-Some.amount c.args.path.now) = augments net c.args.flow.now c.args.path.now c.in-Some.amount c.requires.path least in
    let after : After net c.args.flow.now (raise c.args.flow.now c.in-Some.amount c.args.path.now) c.in-Some.amount = augmented net c.args.graph.now.kept.is_network c.args.flow.now (raise c.args.flow.now c.in-Some.amount c.args.path.now) c.requires.flow a in
    ap (worth net) c.raise_along.ensures.flow ∙ after.raised
