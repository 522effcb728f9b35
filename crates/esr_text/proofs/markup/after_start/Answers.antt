use Rattle.std.proofs.Common.{string_bytes, Some, lit<}
use Rattle.std.proofs.lemmas.Str.Pattern.{strip_suffix_char}
use Rattle.esr_text.proofs.Building.{single, starting}
use Rattle.esr_text.proofs.markup.after_start.Goals as goal

pub returns-in_ok-from_str-in-Some-element_of : goal.returns-in_ok-from_str-in-Some-element_of
returns-in_ok-from_str-in-Some-element_of c =
    let found = c.in-Some-element_of.ensures in
    single c.args.path.now c.args.tag.now c.in-Some.element.now c.in-Some-element_of.field-0.now found.0
    (string_bytes c.in_ok-from_str-in-Some-element_of.field-0)
    (strip_suffix_char 47 c.args.tag.now (Some c.in-Some.element) c.in-Some.ensures.cases (lit< tt))
    found.1 c.in_ok-from_str-in-Some-element_of.ensures.ok found.2 found.3

pub returns-in_ok-within-in-Some-element_of-2 : goal.returns-in_ok-within-in-Some-element_of-2
returns-in_ok-within-in-Some-element_of-2 c =
    let found = c.in-Some-element_of-2.ensures in
    starting c.args.path.now c.args.tag.now c.in-Some-element_of-2.name.now found.0
    (string_bytes c.in_ok-within-in-Some-element_of-2.field-0)
    found.1 c.in_ok-within-in-Some-element_of-2.ensures found.2 found.3
