use Rattle.std.proofs.Common.{◌∙◌, ap, get_or, arith}
use Rattle.esr_cert.proofs.Steps.{sum_step}
use Rattle.esr_cert.proofs.checker.first_amounts.Goals as goal

pub loop-row-preserved : goal.loop-row-preserved
loop-row-preserved c = record {
  value = sum_step (λ row. get_or row 0 0) (λ row. row.items) c.args.rows.now c.loop-row.row-index c.row-item.result (omega arith) c.row-item.is c.loop-row.invariant.value (c.from-sum.ensures ∙ c.amount_or_zero.ensures ∙ ap (λ row. get_or row 0 0) c.deref.ensures.value);
  small = omega (arith, c.loop-row.invariant.small, c.from-sum.ensures);
}
