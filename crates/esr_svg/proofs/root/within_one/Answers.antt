use Rattle.std.proofs.Common.{rules, arith, string_bytes}
use Rattle.std.proofs.lemmas.Grind.{common_steps}
use Rattle.esr_text.proofs.Building.{nothing}
use Rattle.esr_svg.proofs.root.within_one.Goals as goal

pub returns-else-branch : goal.returns-else-branch
returns-else-branch c = (
  nothing (string_bytes c.new.result) c.new.ensures.bytes,
  first_of (search rules, grind (arith, common_steps)),
  first_of (search rules, grind (arith, common_steps)),
)
