use Rattle.std.proofs.Common.{arith, ◌≡◌, ℕ, ◌+◌, ◌<◌, true, false, List, [], ◌∷◌, ◌++◌, length, get_or, set, sym, ap, ◌∙◌, subst}
use Rattle.std.proofs.lemmas.List.{get_or_read}
use Rattle.esr_flow.specs.ShortEntry.{AdjacencyEntry}
use Rattle.esr_flow.specs.Types.{Forward}
use Rattle.esr_flow.specs.ResidualGraph.{network_of}
use Rattle.esr_cert.specs.ResidualArcs.{step_at}
use Rattle.esr_flow.specs.Search.{is_marked, FoundSink}
use Rattle.esr_flow.proofs.ScanLaws.{Scanning, none_at, visit_of, entry_marked, scan_skip, scan_marked, scan_visit, scan_found, scan_end}
use Rattle.esr_flow.proofs.search.scan.Goals as goal
use Rattle.esr_flow.proofs.search.scan.Goals.{then-not-index+then-entry+in_ok-push+else-node-graph, then-not-index+else-entry, else-not-index}

entry_read : (row : List AdjacencyEntry) (i : ℕ) (e x : AdjacencyEntry) → i < length row → e ≡ x → x ≡ get_or row i x → e ≡ get_or row i none_at
entry_read row i e x l is at = is ∙ get_or_read row i x l at none_at

pub index-requires-in-loop-i : goal.index-requires-in-loop-i
index-requires-in-loop-i c =
    let inside : c.entry-entry.result.to < length c.loop-i.marks.items =
    entry_marked (network_of c.args.graph.now) c.args.graph.now.kept.is_network c.args._flow.now c.args.steps.now c.args.row.now c.loop-i.visits.items c.loop-i.marks.items c.args.head (c.index.result.now.level + 1) c.loop-i.i c.entry-entry.result c.loop-i.invariant c.loop-i-test.true (entry_read c.args.row.now c.loop-i.i c.entry-entry.result c.index-row-i.result c.loop-i-test.true c.entry-entry.ensures c.index-row-i.is) in
    omega (arith, inside, c.loop-i.marks.ok.0)

pub index_mut-requires : goal.index_mut-requires
index_mut-requires c =
    let inside : c.entry-entry.result.to < length c.loop-i.marks.items =
    entry_marked (network_of c.args.graph.now) c.args.graph.now.kept.is_network c.args._flow.now c.args.steps.now c.args.row.now c.loop-i.visits.items c.loop-i.marks.items c.args.head (c.index.result.now.level + 1) c.loop-i.i c.entry-entry.result c.loop-i.invariant c.loop-i-test.true (entry_read c.args.row.now c.loop-i.i c.entry-entry.result c.index-row-i.result c.loop-i-test.true c.entry-entry.ensures c.index-row-i.is) in
    omega (arith, inside, c.loop-i.marks.ok.0)

pub returns-then-node-graph : goal.returns-then-node-graph
returns-then-node-graph c =
    let e : AdjacencyEntry = c.entry-entry.result in
    let r : e.has_residual ≡ true = c.if-entry.true in
    let m : is_marked c.loop-i.marks.items e.to ≡ false = cc (c.index-in-loop-i.ensures, c.if-not-index.true) in
    let vs : c.push.new.self.items ≡ c.loop-i.visits.items ++ visit_of (step_at c.args.steps.now c.loop-i.i) e (c.index.result.now.level + 1) c.args.head ∷ [] =
    c.in_ok-push.ensures.items ∙ ap (λ s. c.loop-i.visits.items ++ visit_of s e (c.index.result.now.level + 1) c.args.head ∷ []) (c.unpack.ensures ∙ get_or_read c.args.steps.now c.loop-i.i c.index-steps-i.result (omega (arith, c.requires.row.count, c.loop-i-test.true)) c.index-steps-i.is (Forward 0)) in
    subst (FoundSink (network_of c.args.graph.now) c.args._flow.now) (sym vs)
    (scan_found (network_of c.args.graph.now) c.args.graph.now.kept.is_network c.args._flow.now c.args.steps.now c.args.row.now c.loop-i.visits.items c.loop-i.marks.items c.args.head (c.index.result.now.level + 1) c.loop-i.i e c.loop-i.invariant c.loop-i-test.true (entry_read c.args.row.now c.loop-i.i c.entry-entry.result c.index-row-i.result c.loop-i-test.true c.entry-entry.ensures c.index-row-i.is) r m c.if-node-graph.true)

pub loop-i-preserved : goal.loop-i-preserved
loop-i-preserved c =
    let e : AdjacencyEntry = c.entry-entry.result in
    let level : ℕ = c.index.result.now.level + 1 in
    elim c.if-not-index.branch [
      | then-not-index+then-entry+in_ok-push+else-node-graph w ↦
          let r : e.has_residual ≡ true = w.if-entry.true in
          let m : is_marked c.loop-i.marks.items e.to ≡ false = cc (c.index-in-loop-i.ensures, w.if-not-index.true) in
          let vs : c.if-not-index.visits.items ≡ c.loop-i.visits.items ++ visit_of (step_at c.args.steps.now c.loop-i.i) e level c.args.head ∷ [] = ap (λ v. v.items) w.visits-is ∙ w.in_ok-push.ensures.items ∙ ap (λ s. c.loop-i.visits.items ++ visit_of s e level c.args.head ∷ []) (w.unpack.ensures ∙ get_or_read c.args.steps.now c.loop-i.i w.index-steps-i.result (omega (arith, c.requires.row.count, c.loop-i-test.true)) w.index-steps-i.is (Forward 0)) in
          let ms : c.if-not-index.marks.items ≡ set c.loop-i.marks.items e.to true = ap (λ v. v.items) w.marks-is in
          subst (λ vis. Scanning (network_of c.args.graph.now) c.args._flow.now c.args.steps.now c.args.row.now vis c.if-not-index.marks.items c.args.head level (c.loop-i.i + 1)) (sym vs)
          (subst (λ mar. Scanning (network_of c.args.graph.now) c.args._flow.now c.args.steps.now c.args.row.now (c.loop-i.visits.items ++ visit_of (step_at c.args.steps.now c.loop-i.i) e level c.args.head ∷ []) mar c.args.head level (c.loop-i.i + 1)) (sym ms)
          (scan_visit (network_of c.args.graph.now) c.args.graph.now.kept.is_network c.args._flow.now c.args.steps.now c.args.row.now c.loop-i.visits.items c.loop-i.marks.items c.args.head level c.loop-i.i e c.loop-i.invariant c.loop-i-test.true (entry_read c.args.row.now c.loop-i.i c.entry-entry.result c.index-row-i.result c.loop-i-test.true c.entry-entry.ensures c.index-row-i.is) r m w.if-node-graph.false))
      | then-not-index+else-entry w ↦
          let r : e.has_residual ≡ false = w.if-entry.false in
          subst (λ vis. Scanning (network_of c.args.graph.now) c.args._flow.now c.args.steps.now c.args.row.now vis c.if-not-index.marks.items c.args.head level (c.loop-i.i + 1)) (sym (ap (λ v. v.items) w.visits-is))
          (subst (λ mar. Scanning (network_of c.args.graph.now) c.args._flow.now c.args.steps.now c.args.row.now c.loop-i.visits.items mar c.args.head level (c.loop-i.i + 1)) (sym (ap (λ v. v.items) w.marks-is))
          (scan_skip (network_of c.args.graph.now) c.args.graph.now.kept.is_network c.args._flow.now c.args.steps.now c.args.row.now c.loop-i.visits.items c.loop-i.marks.items c.args.head level c.loop-i.i e c.loop-i.invariant c.loop-i-test.true (entry_read c.args.row.now c.loop-i.i c.entry-entry.result c.index-row-i.result c.loop-i-test.true c.entry-entry.ensures c.index-row-i.is) r))
      | else-not-index w ↦
          let m : get_or c.loop-i.marks.items e.to true ≡ true = cc (c.index-in-loop-i.ensures, w.if-not-index.false) in
          subst (λ vis. Scanning (network_of c.args.graph.now) c.args._flow.now c.args.steps.now c.args.row.now vis c.if-not-index.marks.items c.args.head level (c.loop-i.i + 1)) (sym (ap (λ v. v.items) w.visits-is))
          (subst (λ mar. Scanning (network_of c.args.graph.now) c.args._flow.now c.args.steps.now c.args.row.now c.loop-i.visits.items mar c.args.head level (c.loop-i.i + 1)) (sym (ap (λ v. v.items) w.marks-is))
          (scan_marked (network_of c.args.graph.now) c.args.graph.now.kept.is_network c.args._flow.now c.args.steps.now c.args.row.now c.loop-i.visits.items c.loop-i.marks.items c.args.head level c.loop-i.i e c.loop-i.invariant c.loop-i-test.true (entry_read c.args.row.now c.loop-i.i c.entry-entry.result c.index-row-i.result c.loop-i-test.true c.entry-entry.ensures c.index-row-i.is) m))
    ]

pub returns : goal.returns
returns c =
    scan_end (network_of c.args.graph.now) c.args.graph.now.kept.is_network c.args._flow.now c.args.steps.now c.args.row.now c.loop-i.visits.items c.loop-i.marks.items c.args.head (c.index.result.now.level + 1) c.loop-i.i (omega arith) c.loop-i.invariant
