use Rattle.std.proofs.Common.{sym, ◌∙◌, arith}
use Rattle.std.proofs.lemmas.Option.{get_or_from_slice_get}
use Rattle.esr_grammar.proofs.Laws.{by_digits}
use Rattle.esr_grammar.proofs.words.limit_at_end.Goals as goal

pub returns-in-Some : goal.returns-in-Some
returns-in-Some c =
    by_digits c.args.word.now c.digits_value.result c.digits_value.ensures.found c.digits_value.ensures.none (omega (arith, c.in-Some.ensures.item.3))
    (λ e. c.in-Some.field-0-test.1 (sym (get_or_from_slice_get c.args.word.now 0 _ 0 (sym c.in-Some.ensures.value)) ∙ e))
