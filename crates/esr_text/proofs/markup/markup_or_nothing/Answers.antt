use Rattle.std.proofs.Common.{string_bytes}
use Rattle.esr_text.proofs.Building.{nothing}
use Rattle.esr_text.proofs.markup.markup_or_nothing.Goals as goal

pub returns-else-branch : goal.returns-else-branch
returns-else-branch c = nothing (string_bytes c.new.result) c.new.ensures.bytes
