use Rattle.std.proofs.Common.{◌∙◌, ℕ, List, [], ◌∷◌, ◌++◌, Option, ap, ap₂, get_or, sym, take}
use Rattle.std.specs.List.{cons_option, filter_map}
use Rattle.std.proofs.lemmas.List.{take_more}
use Rattle.std.proofs.lemmas.List.Elements.{filter_map-append}
use Rattle.esr_explore.specs.Columns.{number_in}
use Rattle.esr_explore.proofs.summary.column_values.Goals as goal

pub loop-run_summary-preserved : goal.loop-run_summary-preserved
loop-run_summary-preserved c =
    let h = number_in c.args.column in
    let xs = c.args.summaries.now in
    let i = c.loop-run_summary.run_summary-index in
    let t = c.run_summary-item.result in
    c.in_ok-push_some.ensures
    ∙ (ap₂ (λ (l : List ℕ) (o : Option ℕ). l ++ cons_option o []) c.loop-run_summary.invariant (c.number_in.ensures ∙ ap h c.run_summary-item.is)
    ∙ (sym (filter_map-append h (take i xs) (get_or xs i t ∷ [])) ∙ ap (filter_map h) (sym (take_more xs i t c.loop-run_summary-test.true))))
