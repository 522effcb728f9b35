use Rattle.std.proofs.Common.{arith}
use Rattle.esr_grammar.proofs.Spaces.{one_of_more}
use Rattle.esr_grammar.proofs.words.one_word.Goals as goal

pub returns-in_default-Some : goal.returns-in_default-Some
returns-in_default-Some c = grind (arith, one_of_more c.cut_word.result.0.now c.in_default-Some.field-0-1.now)
