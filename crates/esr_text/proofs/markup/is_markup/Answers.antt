use Rattle.std.proofs.Common.{rules, string_bytes}
use Rattle.esr_text.proofs.Building.{continuing}
use Rattle.esr_text.proofs.markup.is_markup.Goals as goal

pub loop-tag-preserved : goal.loop-tag-preserved
loop-tag-preserved c =
    let here = rw c.in-Some-2.is at c.in_ok-open.ensures in
    let tagged = rw c.as_str.ensures.value at here in (
      search rules,
      λ closed. c.loop-tag.invariant.1
          (continuing (string_bytes c.loop-tag.path) c.loop-tag.rest.now c.in-Some.field-0-0.now c.in-Some.tag.now
          (string_bytes c.in-Some-2.open) c.in-Some.remainder.now c.in-Some.ensures.whole c.in-Some.ensures.plain
          tagged closed),
    )
