use Rattle.std.proofs.Common.{◌∙◌, ℕ, List, Bor, ◌++◌, ap, map, take_all}
use Rattle.esr_tables.specs.Csv.{separated}
use Rattle.esr_tables.proofs.Texts.{field_more}
use Rattle.esr_tables.proofs.csv.push_all_fields.Goals as goal

pub loop-field-preserved : goal.loop-field-preserved
loop-field-preserved c = field_more _ _ _ _ _ _ c.loop-field-test.true c.loop-field.invariant c.in_ok-push_field.ensures

pub returns : goal.returns
returns c =
    let xs : List (Bor (List ℕ)) = c.args.fields.now in
    c.loop-field.invariant ∙ ap (λ (l : List (Bor (List ℕ))). c.args.out.now.items ++ separated (map (λ (w : Bor (List ℕ)). w.now) l)) (take_all c.loop-field.field-index xs c.loop-field-test.false)
