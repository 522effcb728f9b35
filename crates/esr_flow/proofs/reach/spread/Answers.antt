use Rattle.std.proofs.Common.{◌≡◌, ◌∙◌, true, set, sym, ap, subst}
use Rattle.esr_cert.specs.Network.{arc_at}
use Rattle.esr_cert.specs.Flow.{within, amount_at}
use Rattle.esr_flow.specs.Types.{Arc, Forward, Backward}
use Rattle.esr_flow.specs.ResidualGraph.{network_arcs, network_of}
use Rattle.esr_flow.specs.Residual.{left_of}
use Rattle.esr_flow.specs.Reached.{AreReached}
use Rattle.esr_flow.specs.Search.{is_marked}
use Rattle.esr_flow.proofs.ReachLaws.{reached_more}
use Rattle.esr_flow.proofs.reach.spread.Goals as goal

pub returns-then-has_residual-clause-reached : goal.returns-then-has_residual-clause-reached
returns-then-has_residual-clause-reached c =
    let net = network_of c.args.graph.now in let flow = c.args.flow.now in let marks = c.args.marks.now in let i = c.args.i in
    let is : c.arc-arc.result ≡ arc_at (network_arcs c.args.graph.now) i = c.arc-arc.ensures in
    let is_open : within 1 (left_of (arc_at (network_arcs c.args.graph.now) i).capacity (amount_at flow i)) ≡ true =
    ap (λ (a : Arc). within 1 (left_of a.capacity (amount_at flow i))) (sym is) ∙ (sym c.have_capacity-has_residual.ensures.has_residual ∙ c.if-has_residual.true) in
    let from : is_marked marks (arc_at (network_arcs c.args.graph.now) i).from ≡ true = ap (λ (a : Arc). is_marked marks a.from) (sym is) ∙ c.if-marks-from-2.true in
    subst (λ (a : Arc). AreReached net flow (set marks a.to true)) (sym is) (reached_more net c.args.graph.now.kept.is_network flow marks (Forward i) c.requires.reached (c.requires.arc, is_open) from)

pub returns-then-opposite_has_residual-clause-reached : goal.returns-then-opposite_has_residual-clause-reached
returns-then-opposite_has_residual-clause-reached c =
    let net = network_of c.args.graph.now in let flow = c.args.flow.now in let marks = c.args.marks.now in let i = c.args.i in
    let is : c.arc-arc.result ≡ arc_at (network_arcs c.args.graph.now) i = c.arc-arc.ensures in
    let to : is_marked marks (arc_at (network_arcs c.args.graph.now) i).to ≡ true = ap (λ (a : Arc). is_marked marks a.to) (sym is) ∙ c.if-marks-to.true in
    subst (λ (a : Arc). AreReached net flow (set marks a.from true)) (sym is) (reached_more net c.args.graph.now.kept.is_network flow marks (Backward i) c.requires.reached (c.requires.arc, sym c.have_capacity-has_residual.ensures.opposite_has_residual ∙ c.if-opposite_has_residual.true) to)
