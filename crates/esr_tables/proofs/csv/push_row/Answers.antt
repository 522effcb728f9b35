use Rattle.std.proofs.Common.{◌∷◌, [], decimal}
use Rattle.esr_tables.specs.Csv.{amounts, outcome_word, kind_word, decimal_or_empty}
use Rattle.esr_tables.proofs.Texts.{field_is, line_of_parts}
use Rattle.esr_tables.proofs.csv.push_row.Goals as goal

pub returns : goal.returns
returns c =
    let r = c.args.row.now in
    line_of_parts c.args.out.now.items (decimal r.number.0) c.args.name.now (kind_word r.kind) (outcome_word r.outcome) (decimal_or_empty r.distance) (amounts r)
    (decimal c.args.span.first ∷ decimal c.args.span.last ∷ []) _ _ _ _ _ _ _ _ c.in_ok-push_number.ensures c.in_ok-push_field.ensures
    (field_is _ _ _ _ c.in_ok-push_field-2.ensures c.kind_word.ensures) c.in_ok-push_amounts_and_counts.ensures (field_is _ _ _ _ c.in_ok-push_field-3.ensures c.outcome_word.ensures) c.in_ok-push_distance.ensures c.in_ok-push_line_span.ensures c.in_ok-push.ensures.items
