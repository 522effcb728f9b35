use Rattle.std.proofs.Common.{arith, ◌≡◌, length, replicate, rules, sym, subst, ap, ◌∙◌}
use Rattle.esr_cert.specs.Flow.{worth}
use Rattle.esr_flow.specs.Augmentation.{AugmentsFrom}
use Rattle.esr_flow.specs.ResidualGraph.{network_arcs, network_of}
use Rattle.esr_flow.specs.Maximum.{IsStart}
use Rattle.esr_flow.proofs.FlowLaws.{Taken, taken, zero_worth, zero_start}
use Rattle.esr_flow.proofs.MaximumLaws.{takes_zeros}
use Rattle.esr_flow.proofs.Phases.{bounded_augmentations}
use Rattle.esr_flow.proofs.maximum.find_maximum.Goals as goal

pub maximum_from-requires-clause-start : goal.maximum_from-requires-clause-start
maximum_from-requires-clause-start c =
    let zeros : c.in_ok-none.none.items ≡ replicate (length (network_arcs c.args.graph.now)) 0 = search rules in
    subst (IsStart (network_of c.args.graph.now)) (sym zeros) (zero_start (network_of c.args.graph.now))

pub maximum_from-requires-clause-value : goal.maximum_from-requires-clause-value
maximum_from-requires-clause-value c =
    let zeros : c.in_ok-none.none.items ≡ replicate (length (network_arcs c.args.graph.now)) 0 = search rules in
    sym (ap (worth (network_of c.args.graph.now)) zeros ∙ zero_worth (network_of c.args.graph.now))

-- the augmentations are from the flow of zeros
from_zeros : (c : goal.In_ok-maximum) → AugmentsFrom (network_of c.args.graph.now) (replicate (length (network_arcs c.args.graph.now)) 0) c.in_ok-maximum.maximum.augmentations c.in_ok-maximum.maximum.flow.items
from_zeros c =
    let zeros : c.in_ok-none.none.items ≡ replicate (length (network_arcs c.args.graph.now)) 0 = search rules in
    subst (λ first. AugmentsFrom (network_of c.args.graph.now) first c.in_ok-maximum.maximum.augmentations c.in_ok-maximum.maximum.flow.items) zeros c.in_ok-maximum.ensures.takes

pub returns-clause-takes : goal.returns-clause-takes
returns-clause-takes c = takes_zeros (network_of c.args.graph.now) c.in_ok-maximum.maximum.augmentations c.in_ok-maximum.maximum.flow.items (from_zeros c)

pub returns-clause-count_within_max : goal.returns-clause-count_within_max
returns-clause-count_within_max c =
    bounded_augmentations (network_of c.args.graph.now) c.args.graph.now.kept.is_network (replicate (length (network_arcs c.args.graph.now)) 0) (zero_start (network_of c.args.graph.now)).is_flow.same_length c.in_ok-maximum.maximum.augmentations c.in_ok-maximum.maximum.flow.items (from_zeros c)

pub returns-clause-worth : goal.returns-clause-worth
returns-clause-worth c =
    let t : Taken (network_of c.args.graph.now) (replicate (length (network_arcs c.args.graph.now)) 0) c.in_ok-maximum.maximum.augmentations c.in_ok-maximum.maximum.flow.items = taken (network_of c.args.graph.now) c.args.graph.now.kept.is_network (replicate (length (network_arcs c.args.graph.now)) 0) (zero_start (network_of c.args.graph.now)) c.in_ok-maximum.maximum.augmentations c.in_ok-maximum.maximum.flow.items (from_zeros c) in
    omega (arith, t.count_small)
