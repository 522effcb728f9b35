use Rattle.std.proofs.Common.{◌≡◌, true, false, set, replicate, [], ◌∷◌, subst, sym, ◌∙◌, ap, ◌++◌}
use Rattle.esr_flow.specs.Types.{Forward}
use Rattle.esr_flow.specs.ResidualGraph.{network_of}
use Rattle.esr_flow.specs.Search.{is_marked, Searched, Visit}
use Rattle.esr_flow.proofs.PathLaws.{begin, sink_unmarked}
use Rattle.esr_flow.proofs.search.search.Goals as goal

pub visit_nodes-requires-clause-begun : goal.visit_nodes-requires-clause-begun
visit_nodes-requires-clause-begun c =
    let net = network_of c.args.graph.now in
    let first : Visit = record { node = c.args.graph.now.source; level = 0; step = Forward 0; parent = 0 } in
    let marks : c.in_ok-marks.marks.items ≡ replicate c.args.graph.now.node_count false = c.in_ok-marks.ensures.items_if_clones_equal (λ y e. e) in
    let visits : c.push.new.self.items ≡ first ∷ [] = c.in_ok-push.ensures.items ∙ ap (λ vs. vs ++ first ∷ []) c.in_ok-visits.ensures.items in
    subst (λ vs. Searched net c.args.flow.now vs (set c.in_ok-marks.marks.items c.args.graph.now.source true) 0) (sym visits)
    (subst (λ ms. Searched net c.args.flow.now (first ∷ []) (set ms c.args.graph.now.source true) 0) (sym marks)
    (begin net c.args.flow.now c.args.graph.now.kept.is_network))

pub visit_nodes-requires-clause-sink : goal.visit_nodes-requires-clause-sink
visit_nodes-requires-clause-sink c =
    let marks : c.in_ok-marks.marks.items ≡ replicate c.args.graph.now.node_count false = c.in_ok-marks.ensures.items_if_clones_equal (λ y e. e) in
    ap (λ ms. is_marked (set ms c.args.graph.now.source true) c.args.graph.now.sink) marks ∙ sink_unmarked (network_of c.args.graph.now) c.args.graph.now.kept.is_network
