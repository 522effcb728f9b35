use Rattle.std.proofs.Common.{arith, ◌≡◌, ℕ, ◌+◌, ◌-◌, ◌<◌, max, length, set, sym, ◌∙◌, subst}
use Rattle.std.proofs.lemmas.List.{get_or_default}
use Rattle.esr_flow.specs.ResidualGraph.{network_of}
use Rattle.esr_flow.specs.Search.{visit_at, label_at, Visit}
use Rattle.esr_flow.proofs.LabelLaws.{Labelled, label_more, labels_guide}
use Rattle.esr_flow.proofs.search.labels_of.Goals as goal

pub overflow_sub-last : goal.overflow_sub-last
overflow_sub-last c = omega (arith, c.requires.in_visits)

pub bounds-visits-visits : goal.bounds-visits-visits
bounds-visits-visits c = omega (arith, c.requires.in_visits)

pub loop-visit-preserved : goal.loop-visit-preserved
loop-visit-preserved c =
    let k : ℕ = c.loop-visit.visit-index in
    let visit : Visit = visit_at c.args.visits.now c.loop-visit.visit-index in
    let last : ℕ = (visit_at c.args.visits.now (length c.args.visits.now - 1)).level in
    let known : visit.node < c.args.graph.now.node_count = c.requires.searched.node_count k c.loop-visit-test.true in
    let old : c.index.result.now ≡ label_at c.loop-visit.labels.items visit.node =
    c.index.ensures ∙ get_or_default c.loop-visit.labels.items visit.node c.index.result.now 0 (omega (arith, known, c.loop-visit.invariant.count)) in
    let new : c.max.result ≡ max (label_at c.loop-visit.labels.items visit.node) (last - visit.level) = omega (arith, c.max.ensures, old, c.saturating_sub-label.ensures) in
    subst (λ n. Labelled c.args.visits.now c.args.graph.now.node_count last (set c.loop-visit.labels.items visit.node n) (k + 1)) (sym new)
    (label_more c.args.visits.now c.args.graph.now.node_count last c.loop-visit.labels.items k c.loop-visit-test.true known c.loop-visit.invariant)

pub returns-clause-guides : goal.returns-clause-guides
returns-clause-guides c =
    labels_guide (network_of c.args.graph.now) c.args._flow.now c.args.visits.now c.requires c.loop-visit.labels.items c.loop-visit.visit-index (omega arith) c.loop-visit.invariant
