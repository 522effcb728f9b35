use Rattle.std.proofs.Common.{Some, lit<}
use Rattle.std.specs.Prelude.{codes}
use Rattle.std.proofs.lemmas.Str.Pattern.{strip_prefix_char, split_text_parts, split_parts}
use Rattle.esr_text.proofs.Building.{attribute_before}
use Rattle.esr_text.proofs.markup.after_attribute.Goals as goal

pub returns-then-is_plain-clause-continues : goal.returns-then-is_plain-clause-continues
returns-then-is_plain-clause-continues c =
    let blank = strip_prefix_char 32 c.args.text.now (Some c.in_ok-attribute.attribute)
    c.in_ok-attribute.ensures.cases (lit< tt) in
    let named = split_text_parts (codes "='") c.in_ok-attribute.attribute.now
    (Some (c.in_ok-name.name, c.in_ok-name.quoted)) c.in_ok-name.ensures.cases in
    let quoted = split_parts 39 c.in_ok-name.quoted.now (Some (c.in_ok-value.value, c.in_ok-value.remainder))
    c.in_ok-value.ensures.cases (lit< tt) in
    λ rest. attribute_before c.args.text.now c.in_ok-attribute.attribute.now c.in_ok-name.name.now
    c.in_ok-name.quoted.now c.in_ok-value.value.now c.in_ok-value.remainder.now blank named quoted.0
    (c.is_name.ensures c.if-is_name.true) (c.is_plain.ensures c.if-is_plain.true) quoted.1 rest
