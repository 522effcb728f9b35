use Rattle.std.proofs.Common.{arith, ◌≡◌, ℕ, ◌+◌, ◌-◌, ◌<◌, ◌≤◌, [], ◌∷◌, ◌++◌, List, length, set, drop, sym, ◌∙◌, ap, subst, suc, true, false, length-set, length-take}
use Rattle.std.proofs.lemmas.List.{length_push, get_or_read}
use Rattle.esr_flow.specs.Types.{Arc, ResidualArc, Forward}
use Rattle.esr_cert.specs.Flow.{within}
use Rattle.esr_cert.specs.Network.{Network}
use Rattle.esr_flow.specs.ShortEntry.{AdjacencyEntry}
use Rattle.esr_flow.specs.Residual.{residual_capacity, finish}
use Rattle.esr_cert.specs.ResidualArcs.{arc_of, start, opposite, step_at}
use Rattle.esr_flow.specs.ResidualGraph.{network_arcs, network_of, IsAdjacencyRow, IsEntry, entry_at}
use Rattle.esr_cert.specs.Adjacency.{span_at}
use Rattle.esr_flow.specs.Search.{label_at, IsGuided}
use Rattle.esr_flow.proofs.EntriesLaws.{lists_read}
use Rattle.esr_flow.proofs.WalkLaws.{Walk, walk_push, walk_pop, walk_end, popped_in, opposite_arc, opposite_start, opposite_finish, untried, untried_less, untried_same}
use Rattle.esr_flow.proofs.paths.next_path.Goals as goal

pub offset_bounds-labels-graph : goal.offset_bounds-labels-graph
offset_bounds-labels-graph c = omega (arith, c.args.graph.now.kept.is_network.source_is_node, c.requires.guides.count, c.args.graph.now.kept.count_within_max)

pub bounds-labels-graph : goal.bounds-labels-graph
bounds-labels-graph c = omega (arith, c.args.graph.now.kept.is_network.source_is_node, c.requires.guides.count)

pub next_back-i-requires-clause-row : goal.next_back-i-requires-clause-row
next_back-i-requires-clause-row c =
    lists_read c.args.graph.now c.args.flow.now c.args.entries.now c.requires.entries c.loop-at.at c.loop-at.invariant.0.node c.steps_at-steps.result.now c.row-row.result.now c.steps_at-steps.ensures c.row-row.ensures

pub loop-at-smaller-then-i-row : goal.loop-at-smaller-then-i-row
loop-at-smaller-then-i-row c =
    let span = span_at c.args.graph.now.adjacency.now.spans.items c.loop-at.at in
    let long : length c.row-row.result.now ≤ span.end - span.begin = omega (arith, ap length c.row-row.ensures, length-take (span.end - span.begin) (drop span.begin c.args.entries.now)) in
    let less : suc (untried c.args.graph.now.adjacency.now.spans.items (set c.loop-at.next c.loop-at.at (c.next_back-i.result + 1))) ≤ untried c.args.graph.now.adjacency.now.spans.items c.loop-at.next =
    untried_less c.args.graph.now.adjacency.now.spans.items c.loop-at.next c.loop-at.at c.next_back-i.result (omega (arith, c.args.graph.now.kept.count, c.loop-at.invariant.0.node)) (omega (arith, c.loop-at.invariant.1, c.loop-at.invariant.0.node)) c.next_back-i.ensures.later (omega (arith, long, c.if-i-row.true)) in
    omega (arith, less, length_push c.loop-at.path.items c.opposite.result, ap length c.in_ok-push.ensures.items)

pub loop-at-preserved-then-i-row : goal.loop-at-preserved-then-i-row
loop-at-preserved-then-i-row c =
    let net : Network = network_of c.args.graph.now in
    let arcs : List Arc = network_arcs c.args.graph.now in
    let flow : List ℕ = c.args.flow.now in
    let labels : List ℕ = c.args.labels.now in
    let e : AdjacencyEntry = entry_at c.row-row.result.now c.next_back-i.result in
    let read : c.entry-at.result ≡ e = c.entry-at.ensures ∙ get_or_read c.row-row.result.now c.next_back-i.result c.index-row-i.result c.if-i-row.true c.index-row-i.is (record { to = 0; has_residual = false; opposite_has_residual = false }) in
    let t : ResidualArc = step_at c.steps_at-steps.result.now c.next_back-i.result in
    let s : ResidualArc = opposite t in
    let row : IsAdjacencyRow arcs flow c.loop-at.at c.steps_at-steps.result.now c.row-row.result.now = lists_read c.args.graph.now c.args.flow.now c.args.entries.now c.requires.entries c.loop-at.at c.loop-at.invariant.0.node c.steps_at-steps.result.now c.row-row.result.now c.steps_at-steps.ensures c.row-row.ensures in
    let at : IsEntry arcs flow c.loop-at.at t e = row.entries c.next_back-i.result c.if-i-row.true in
    let arc_in_range : arc_of s < length arcs = omega (arith, at.arc_in_range, opposite_arc t) in
    let has_capacity : within 1 (residual_capacity arcs flow s) ≡ true = c.next_back-i.ensures.residual c.if-i-row.true in
    let ends : finish arcs s ≡ c.loop-at.at = opposite_finish arcs t ∙ at.starts in
    let begins : start arcs s ≡ e.to = opposite_start arcs t ∙ sym at.leads in
    let down : label_at labels (finish arcs s) < label_at labels (start arcs s) = omega (arith, c.next_back-i.ensures.up c.if-i-row.true, ap (label_at labels) ends, ap (label_at labels) begins) in
    let pushed : c.push.new.self.items ≡ c.loop-at.path.items ++ s ∷ [] = c.in_ok-push.ensures.items ∙ ap (λ t. c.loop-at.path.items ++ t ∷ []) c.opposite.ensures ∙ ap (λ t. c.loop-at.path.items ++ opposite t ∷ []) (c.unpack.ensures ∙ get_or_read c.steps_at-steps.result.now c.next_back-i.result c.index-steps-i.result (omega (arith, row.count, c.if-i-row.true)) c.index-steps-i.is (Forward 0)) in (
      subst (Walk net flow labels c.push.new.self.items) (begins ∙ ap (λ (x : AdjacencyEntry). x.to) (sym read))
          (subst (λ p. Walk net flow labels p (start arcs s)) (sym pushed)
          (walk_push net c.args.graph.now.kept.is_network flow labels c.loop-at.path.items c.loop-at.at s c.loop-at.invariant.0 ends (arc_in_range, has_capacity) down)),
      length-set c.loop-at.next c.loop-at.at (c.next_back-i.result + 1) ∙ c.loop-at.invariant.1,
    )

pub finish_of-at-requires : goal.finish_of-at-requires
finish_of-at-requires c =
    let w : Walk (network_of c.args.graph.now) c.args.flow.now c.args.labels.now (c.pop.new.self.items ++ c.in-Some.step ∷ []) c.loop-at.at = subst (λ p. Walk (network_of c.args.graph.now) c.args.flow.now c.args.labels.now p c.loop-at.at) c.in-Some.ensures.items c.loop-at.invariant.0 in
    popped_in (network_of c.args.graph.now) c.args.graph.now.kept.is_network c.args.flow.now c.args.labels.now c.pop.new.self.items c.loop-at.at c.in-Some.step w

pub loop-at-smaller : goal.loop-at-smaller
loop-at-smaller c =
    let same : untried c.args.graph.now.adjacency.now.spans.items (set c.loop-at.next c.loop-at.at c.next_back-i.result) ≤ untried c.args.graph.now.adjacency.now.spans.items c.loop-at.next =
    untried_same c.args.graph.now.adjacency.now.spans.items c.loop-at.next c.loop-at.at c.next_back-i.result (omega (arith, c.loop-at.invariant.1, c.loop-at.invariant.0.node)) c.next_back-i.ensures.later in
    omega (arith, same, length_push c.pop.new.self.items c.in-Some.step, ap length c.in-Some.ensures.items)

pub loop-at-preserved : goal.loop-at-preserved
loop-at-preserved c =
    let w : Walk (network_of c.args.graph.now) c.args.flow.now c.args.labels.now (c.pop.new.self.items ++ c.in-Some.step ∷ []) c.loop-at.at = subst (λ p. Walk (network_of c.args.graph.now) c.args.flow.now c.args.labels.now p c.loop-at.at) c.in-Some.ensures.items c.loop-at.invariant.0 in
    let finish_is : c.finish_of-at.result ≡ finish (network_arcs c.args.graph.now) c.in-Some.step = c.finish_of-at.ensures in (
      subst (λ n. Walk (network_of c.args.graph.now) c.args.flow.now c.args.labels.now c.pop.new.self.items n) (sym finish_is)
          (walk_pop (network_of c.args.graph.now) c.args.graph.now.kept.is_network c.args.flow.now c.args.labels.now c.pop.new.self.items c.loop-at.at c.in-Some.step c.requires.guides w),
      length-set c.loop-at.next c.loop-at.at c.next_back-i.result ∙ c.loop-at.invariant.1,
    )

pub returns : goal.returns
returns c =
    subst (IsGuided (network_of c.args.graph.now) c.args.flow.now c.args.labels.now) (sym c.reverse.ensures.items)
    (walk_end (network_of c.args.graph.now) c.args.graph.now.kept.is_network c.args.flow.now c.args.labels.now c.loop-at.path.items c.loop-at.at c.requires.guides c.loop-at-test.false c.loop-at.invariant.0)
