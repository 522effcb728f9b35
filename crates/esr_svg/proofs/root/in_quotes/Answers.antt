use Rattle.esr_text.specs.Markup.{none}
use Rattle.esr_svg.proofs.root.in_quotes.Goals as goal

pub returns-else-is_attributes : goal.returns-else-is_attributes
returns-else-is_attributes c = rw c.new.ensures.bytes none
