use Rattle.std.proofs.Common.{◌≡◌, Contains, ◌∙◌, ap, sym, subst}
use Rattle.esr_cert.specs.ResidualArcs.{start}
use Rattle.esr_cert.specs.Adjacency.{row_in, span_at}
use Rattle.esr_flow.specs.ResidualGraph.{network_arcs}
use Rattle.esr_flow.specs.Residual.{finish}
use Rattle.esr_flow.proofs.WalkLaws.{opposite_finish}
use Rattle.esr_flow.proofs.EntriesLaws.{in_row}
use Rattle.esr_flow.proofs.graph.ResidualGraph.place_of.Goals as goal

pub place_of-requires-clause-starts : goal.place_of-requires-clause-starts
place_of-requires-clause-starts c =
    let node : c.finish_of-node.result ≡ start (network_arcs c.args.self.now) c.args.step =
    c.finish_of-node.ensures ∙ ap (finish (network_arcs c.args.self.now)) c.opposite.ensures ∙ opposite_finish (network_arcs c.args.self.now) c.args.step in
    subst (λ v. Contains (row_in c.args.self.now.adjacency.now.steps.items (span_at c.args.self.now.adjacency.now.spans.items v)) c.args.step) (sym node) (in_row c.args.self.now c.args.step c.requires.arc)
