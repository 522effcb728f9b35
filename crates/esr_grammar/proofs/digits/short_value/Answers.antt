use Rattle.std.proofs.Common.{◌≡◌, true, nat_lt, sym, ap, ◌∙◌, arith}
use Rattle.std.specs.List.{list_all}
use Rattle.std.specs.Str.{all_ascii_digits}
use Rattle.esr_grammar.specs.Digits.{worth}
use Rattle.esr_grammar.proofs.Eights.{number_in, some_above, none_above, all_below}
use Rattle.esr_grammar.proofs.digits.short_value.Goals as goal

pub returns-then-no_digits-ne0-clause-none : goal.returns-then-no_digits-ne0-clause-none
returns-then-no_digits-ne0-clause-none c =
    let is = number_in c.args.text.now c.requires.ends.0 c.args.number.now c.type_inv.number c.requires.ends.1 c.requires.long c.requires.short in
    sym is.below ∙ ap (list_all (λ d. nat_lt d 10)) (sym c.padded-digits.ensures)
    ∙ some_above c.padded-digits.result (λ e. c.if-no_digits-ne0.true (c.no_digits.ensures ∙ e))

pub returns-clause-found : goal.returns-clause-found
returns-clause-found c =
    let is = number_in c.args.text.now c.requires.ends.0 c.args.number.now c.type_inv.number c.requires.ends.1 c.requires.long c.requires.short in
    let below = all_below c.padded-digits.result (none_above c.padded-digits.result (sym c.no_digits.ensures ∙ c.if-no_digits-ne0.false)) in
    let digits : all_ascii_digits c.args.number.now ≡ true = sym is.below ∙ ap (list_all (λ d. nat_lt d 10)) (sym c.padded-digits.ensures) ∙ below in
    (c.from.ensures ∙ c.worth.ensures.value ∙ ap worth c.padded-digits.ensures ∙ is.value digits, omega (arith, c.from.ensures, c.worth.ensures.small), digits)
