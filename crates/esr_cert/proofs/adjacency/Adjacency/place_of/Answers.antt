use Rattle.std.proofs.Common.{rules, ltb, ◌≡◌, ◌+◌, ◌<◌, ◌∙◌, length, ap, sym, subst}
use Rattle.std.specs.List.Sorted.{IsNonDecreasingBy}
use Rattle.std.proofs.lemmas.List.{get_or_read}
use Rattle.std.proofs.lemmas.List.Sorted.{IsPartitionedBy-ltb, IsPartitionPoint-from_clause}
use Rattle.esr_cert.specs.ResidualArcs.{rank_of, step_at}
use Rattle.esr_cert.specs.Adjacency.{row_in, span_at, Span}
use Rattle.esr_cert.proofs.IsAdjacencyUpTo.{found_place}
use Rattle.esr_cert.proofs.adjacency.Adjacency.place_of.Goals as goal

found : (c : goal.After-partition_point) → (c.index.result.now.begin + c.partition_point.result < length c.args.self.now.steps.items) × (step_at c.args.self.now.steps.items (c.index.result.now.begin + c.partition_point.result) ≡ c.args.step)
found c =
    let span : c.index.result.now ≡ span_at c.args.self.now.spans.items c.args.v = get_or_read c.args.self.now.spans.items c.args.v c.index.result.now c.requires.node c.index.ensures (record { begin = 0; end = 0 }) in
    let row : c.row-row.result.now ≡ row_in c.args.self.now.steps.items (span_at c.args.self.now.spans.items c.args.v) = c.row-row.ensures ∙ ap (λ list. row_in list (span_at c.args.self.now.spans.items c.args.v)) c.deref.ensures.value in
    let rise : IsNonDecreasingBy rank_of c.row-row.result.now = subst (IsNonDecreasingBy rank_of) (sym row) c.requires.ascending in
    let at = found_place c.args.self.now.steps.items c.row-row.result.now (span_at c.args.self.now.spans.items c.args.v) c.args.step c.partition_point.result row c.requires.inside c.requires.ascending c.requires.starts
    (IsPartitionPoint-from_clause (λ t. ltb (rank_of t) (rank_of c.args.step)) _ _ c.partition_point.ensures.partitioned (IsPartitionedBy-ltb rank_of c.row-row.result.now (rank_of c.args.step) rise) (λ a r f' called. search rules)) in
    subst (λ (s : Span). (s.begin + c.partition_point.result < length c.args.self.now.steps.items) × (step_at c.args.self.now.steps.items (s.begin + c.partition_point.result) ≡ c.args.step)) (sym span) at

pub returns-clause-inside : goal.returns-clause-inside
returns-clause-inside c = (found c).0

pub returns-clause-place : goal.returns-clause-place
returns-clause-place c = (found c).1
