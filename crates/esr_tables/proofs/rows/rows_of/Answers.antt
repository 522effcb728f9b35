use Rattle.std.proofs.Common.{◌≡◌, ◌∙◌, ap, arith, map}
use Rattle.std.specs.List.{range_with_len}
use Rattle.esr_items.specs.Weights.{weighted}
use Rattle.esr_history.specs.BackLinks.{begun_count}
use Rattle.esr_history.specs.Machine.{Schedule}
use Rattle.esr_outcomes.specs.Outcomes.{distance_of}
use Rattle.esr_tables.specs.Rows.{row_of}
use Rattle.esr_tables.proofs.Places.{value_more}
use Rattle.esr_tables.proofs.rows.rows_of.Goals as goal

pub row_of-requires-clause-distance : goal.row_of-requires-clause-distance
row_of-requires-clause-distance c = c.in_ok-distance.ensures ∙ ap (λ (h : Schedule). distance_of weighted h c.nth_txn-t.result.0) c.in_ok-auditor.ensures

pub loop-index-preserved : goal.loop-index-preserved
loop-index-preserved c =
    let h = c.args.history.now.schedule in
    value_more (row_of weighted h) c.loop-index.index c.loop-index.rows.items _ c.row_of.result c.loop-index.invariant c.in_ok-push_row.ensures
    (c.row_of.ensures ∙ ap (row_of weighted h) c.nth_txn-t.ensures)

pub returns : goal.returns
returns c =
    let h = c.args.history.now.schedule in
    let all : c.loop-index.index ≡ begun_count h.entries = omega (arith, c.loop-index-test.false, c.loop-index.auto.index-end, c.begun_count-index-end.ensures) in
    c.loop-index.invariant ∙ ap (λ n. map (row_of weighted h) (range_with_len 1 n)) all
