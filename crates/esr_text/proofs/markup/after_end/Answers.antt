use Rattle.esr_text.proofs.Building.{closing}
use Rattle.std.proofs.Common.{string_bytes}
use Rattle.esr_text.proofs.markup.after_end.Goals as goal

pub returns-in_ok-from_str-in-Some : goal.returns-in_ok-from_str-in-Some
returns-in_ok-from_str-in-Some c =
    closing c.args.path.now c.args.name.now c.in-Some.outer.now (string_bytes c.in_ok-from_str-in-Some.field-0)
    c.in-Some.ensures c.in_ok-from_str-in-Some.ensures.ok (c.is_name.ensures c.if-is_name.true)
