use Rattle.std.proofs.Common.{arith, ◌≡◌, ℕ, false, subst, ◌∙◌, ap}
use Rattle.esr_flow.specs.Types.{Forward}
use Rattle.std.proofs.lemmas.List.{get_or_default}
use Rattle.esr_flow.specs.ResidualGraph.{network_of, ResidualGraph}
use Rattle.esr_cert.specs.Adjacency.{row_in, span_at}
use Rattle.esr_flow.specs.Search.{visit_at, Searched, AfterScan}
use Rattle.esr_flow.proofs.EntriesLaws.{lists_read}
use Rattle.esr_flow.proofs.SearchLaws.{all_reached}
use Rattle.esr_flow.proofs.search.visit_nodes.Goals as goal

pub loop-head-init : goal.loop-head-init
loop-head-init c = (c.requires.begun, c.requires.sink, omega arith)

pub scan-requires-clause-row : goal.scan-requires-clause-row
scan-requires-clause-row c =
    let g : ResidualGraph = c.args.graph.now in
    let h : Searched (network_of g) c.args.flow.now c.loop-head.visits.items c.loop-head.marks.items c.loop-head.head = c.loop-head.invariant.0 in
    let v : ℕ = (visit_at c.loop-head.visits.items c.loop-head.head).node in
    let first : c.index.result.now.node ≡ v =
    ap (λ x. x.node) (c.index.ensures ∙ get_or_default c.loop-head.visits.items c.loop-head.head c.index.result.now (record { node = 0; level = 0; step = Forward 0; parent = 0 }) (omega arith)) in
    let steps : c.steps_at-steps.result.now ≡ row_in g.adjacency.now.steps.items (span_at g.adjacency.now.spans.items v) = c.steps_at-steps.ensures ∙ ap (λ n. row_in g.adjacency.now.steps.items (span_at g.adjacency.now.spans.items n)) first in
    let row : c.row-row.result.now ≡ row_in c.args.entries.now (span_at g.adjacency.now.spans.items v) = c.row-row.ensures ∙ ap (λ n. row_in c.args.entries.now (span_at g.adjacency.now.spans.items n)) first in
    lists_read g c.args.flow.now c.args.entries.now c.requires.entries v (h.node_count c.loop-head.head (omega arith)) c.steps_at-steps.result.now c.row-row.result.now steps row

pub loop-head-preserved : goal.loop-head-preserved
loop-head-preserved c =
    let after : AfterScan (network_of c.args.graph.now) c.args.flow.now c.scan.new.visits.items c.scan.new.marks.items c.loop-head.head false =
    subst (λ b. AfterScan (network_of c.args.graph.now) c.args.flow.now c.scan.new.visits.items c.scan.new.marks.items c.loop-head.head b) c.if-branch.false c.in_ok-scan.ensures in
    (after.0, after.1, omega (arith, after.2))

pub returns : goal.returns
returns c =
    let h : Searched (network_of c.args.graph.now) c.args.flow.now c.loop-head.visits.items c.loop-head.marks.items c.loop-head.head = c.loop-head.invariant.0 in
    (all_reached (network_of c.args.graph.now) c.args.flow.now c.loop-head.visits.items c.loop-head.marks.items c.loop-head.head h (omega arith), c.loop-head.invariant.1, h.marks_length)
