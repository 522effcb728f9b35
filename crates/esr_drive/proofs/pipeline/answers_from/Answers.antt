use Rattle.std.proofs.Common.{◌≡◌, ◌++◌, map, refl, ap, ap₂, ◌∙◌}
use Rattle.esr_items.specs.Weights.{weighted}
use Rattle.esr_history.specs.Totals.{all_imports, all_exports}
use Rattle.esr_report.specs.Lines.{totals_line}
use Rattle.esr_plan.specs.Calls.{all_answers}
use Rattle.esr_plan.specs.Text.{names_of, items_text, blocks_text, findings_text}
use Rattle.esr_plan.specs.Tables.{names_in}
use Rattle.esr_drive.proofs.Texts.{three_parts}
use Rattle.esr_drive.proofs.pipeline.answers_from.Goals as goal

pub returns : goal.returns
returns g c =
    let h = c.args.driven.now.history.schedule in
    let bs = c.args.drive_plan.now.blocks.items in
    let rs = c.args.driven.now.replies.items in
    let answers = all_answers (map (λ b. b.items) bs) (map (λ r. r.items) rs) in
    let slices : all_answers (map (λ b. b.items) c.as_slice-blocks.result.now) (map (λ r. r.items) c.as_slice-replies.result.now) ≡ answers =
    ap₂ (λ x y. all_answers (map (λ b. b.items) x) (map (λ r. r.items) y)) c.as_slice-blocks.ensures.value c.as_slice-replies.ensures.value in
    let names : names_in c.in_ok-names.names ≡ names_of h answers = c.in_ok-names.ensures ∙ ap (names_of h) slices in
    let t = c.requires.totals in
    let sums : totals_line c.args.driven.now.totals.import c.args.driven.now.totals.export c.args.driven.now.totals.entries ≡ totals_line (all_imports weighted h) (all_exports weighted h) _ =
    rw (t.import, t.export, t.entries) refl in
    three_parts c.new-text.result c.push.new.self c.push_blocks.new.text c.push-2.new.self c.new-end.result.items c.push_findings.new.out.items c.totals_line.new.out.items c.push_items.new.out.items _ _ _ _ c.new-text.ensures
    (c.in_ok-push_items.ensures ∙ ap₂ (λ v w. c.new-start.result.items ++ items_text c.args.drive_plan.now.names v w) c.as_slice.ensures.value c.as_slice-2.ensures.value ∙ ap (λ l. l ++ items_text c.args.drive_plan.now.names c.args.drive_plan.now.values.items c.args.drive_plan.now.weights.items) c.new-start.ensures.items)
    c.in_ok-push.ensures
    (c.in_ok-push_blocks.ensures ∙ ap₂ (λ n a. c.push.new.self ++ blocks_text n 0 a) names slices)
    c.new-end.ensures.items
    (c.in_ok-push_findings.ensures ∙ ap (λ n. c.new-end.result.items ++ findings_text h n) names)
    (c.in_ok-totals_line.ensures.ok ∙ ap (λ l. c.push_findings.new.out.items ++ l) sums)
    c.in_ok-push-2.ensures
