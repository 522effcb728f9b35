use Rattle.std.proofs.Common.{refl, sym, arith}
use Rattle.esr_grammar.proofs.Laws.{one_digit, fits, all_read}
use Rattle.esr_grammar.proofs.words.value_by_bytes.Goals as goal

pub overflow_mul-value : goal.overflow_mul-value
overflow_mul-value c =
    omega (arith, fits c.loop-digit.digit-index c.loop-digit.value c.loop-digit.invariant.small (omega (arith, c.loop-digit-test.true, c.requires)))

pub overflow_add-value : goal.overflow_add-value
overflow_add-value c =
    omega (arith, c.from.ensures, c.if-not-is_ascii_digit.ensures.cases.1, fits c.loop-digit.digit-index c.loop-digit.value c.loop-digit.invariant.small (omega (arith, c.loop-digit-test.true, c.requires)))

pub loop-digit-preserved : goal.loop-digit-preserved
loop-digit-preserved c =
    rw c.from.ensures (one_digit c.args.digits.now _ _ _ _ c.loop-digit.invariant c.loop-digit-test.true refl (sym c.if-not-is_ascii_digit.ensures.value) c.if-not-is_ascii_digit.ensures.cases.1)

pub returns-clause-found : goal.returns-clause-found
returns-clause-found c = all_read c.args.digits.now _ _ c.loop-digit.invariant c.loop-digit-test.false c.loop-digit.auto.digit-index-end
