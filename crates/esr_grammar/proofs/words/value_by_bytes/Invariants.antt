use Rattle.esr_grammar.proofs.Laws.{IsValueOf}
use Rattle.esr_grammar.proofs.words.value_by_bytes.Given as goal

abbrev pub invariant-loop-digit : goal.invariant-loop-digit
invariant-loop-digit l = IsValueOf l.digits l.digit-index l.value
