use Rattle.std.proofs.Common.{arith}
use Rattle.esr_grammar.proofs.Spaces.{name_utf8}
use Rattle.esr_grammar.proofs.quick.name_at_end.Goals as goal

pub from_utf8_unchecked-requires : goal.from_utf8_unchecked-requires
from_utf8_unchecked-requires c = grind (arith, name_utf8)
