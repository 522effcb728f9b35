use Rattle.std.proofs.Common.{◌≡◌, ◌∙◌, ap, arith, sum_by, sym}
use Rattle.std.specs.List.{range_with_len}
use Rattle.esr_items.specs.Weights.{weighted}
use Rattle.esr_history.specs.BackLinks.{begun_count}
use Rattle.esr_history.specs.Machine.{charges_in, import_in}
use Rattle.esr_tables.proofs.Exported.{none_more}
use Rattle.esr_tables.proofs.exports.imports_nothing.Goals as goal

pub loop-index-preserved : goal.loop-index-preserved
loop-index-preserved c =
    let h = c.args.history.now.schedule in
    none_more (λ t. import_in (charges_in weighted h) t) c.loop-index.index c.import.result c.loop-index.invariant
    (c.import.ensures ∙ ap (import_in (charges_in weighted h)) c.nth_txn.ensures) (omega arith)

pub returns : goal.returns
returns c = λ yes.
    let h = c.args.history.now.schedule in
    let all : c.loop-index.index ≡ begun_count h.entries = omega (arith, c.loop-index-test.false, c.loop-index.auto.index-end, c.begun_count-index-end.ensures) in
    ap (λ n. sum_by (λ t. import_in (charges_in weighted h) t) (range_with_len 1 n)) (sym all) ∙ c.loop-index.invariant
