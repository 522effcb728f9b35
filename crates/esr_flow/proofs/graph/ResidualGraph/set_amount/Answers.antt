use Rattle.std.proofs.Common.{◌≡◌, ℕ, List, arith, get_or, get_or-set_same, set, sym, ◌∙◌}
use Rattle.std.specs.Cmp.{booleans_Decides}
use Rattle.esr_flow.specs.ResidualGraph.{network_arcs}
use Rattle.esr_flow.proofs.EntriesLaws.{renewed, unchanged, along_is, against_is}
use Rattle.esr_flow.proofs.graph.ResidualGraph.set_amount.Goals as goal

pub returns-then-back_now-opposite_has_residual-clause-entries : goal.returns-then-back_now-opposite_has_residual-clause-entries
returns-then-back_now-opposite_has_residual-clause-entries c =
    unchanged c.args.self.now c.args.flow.now c.args.entries.now c.args.arc c.args.amount c.arc-ends.result (omega (arith, c.requires.arc, c.requires.flow)) c.arc-ends.ensures c.requires.entries
    (sym c.have_capacity-has_residual.ensures.has_residual ∙ sym ((booleans_Decides c.have_capacity-ahead_now.result.0 c.have_capacity-has_residual.result.0).0 c.if-ahead_now-has_residual.true) ∙ c.have_capacity-ahead_now.ensures.has_residual)
    (sym c.have_capacity-has_residual.ensures.opposite_has_residual ∙ sym ((booleans_Decides c.have_capacity-ahead_now.result.1 c.have_capacity-has_residual.result.1).0 c.if-back_now-opposite_has_residual.true) ∙ c.have_capacity-ahead_now.ensures.opposite_has_residual)

pub returns-clause-entries : goal.returns-clause-entries
returns-clause-entries c =
    let flow : List ℕ = set c.args.flow.now c.args.arc c.args.amount in
    let now : c.args.amount ≡ get_or flow c.args.arc 0 = sym (get_or-set_same c.args.flow.now c.args.arc c.args.amount 0 (omega (arith, c.requires.arc, c.requires.flow))) in
    renewed c.args.self.now c.args.flow.now c.args.entries.now c.args.arc c.args.amount c.place_of-place.result c.place_of-place-2.result c.entries_of-along.result.0 c.entries_of-along.result.1 c.requires.entries
    c.place_of-place.ensures.inside c.place_of-place.ensures.place c.place_of-place-2.ensures.inside c.place_of-place-2.ensures.place
    (c.entries_of-along.ensures.along ∙ along_is (network_arcs c.args.self.now) flow c.args.arc c.args.amount c.arc-ends.result c.arc-ends.ensures now)
    (c.entries_of-along.ensures.against ∙ against_is (network_arcs c.args.self.now) flow c.args.arc c.args.amount c.arc-ends.result c.arc-ends.ensures now)
