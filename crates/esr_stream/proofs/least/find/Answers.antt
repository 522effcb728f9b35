use Rattle.std.proofs.Common.{◌<◌, ◌∙◌, ap, arith}
use Rattle.std.proofs.lemmas.Bool.{lt-ltb}
use Rattle.esr_order.proofs.Early.{must_below}
use Rattle.esr_bound.specs.Amounts.{mark_at}
use Rattle.esr_stream.proofs.least.find.Goals as goal

pub find_with_amounts-requires-clause-prefix_marked : goal.find_with_amounts-requires-clause-prefix_marked
find_with_amounts-requires-clause-prefix_marked g c = λ i l.
    let h = c.args.query.now.schedule in
    let d = g.M.Metric.distance_by in
    let legal = c.history-invariant.ensures.legal in
    let inside : i < c.update_count.result = omega (arith, l, c.mandatory_count-first.ensures, must_below d h c.args.query.now.query legal, c.update_count.ensures) in
    ap (λ ms. mark_at ms i) c.deref_mut.ensures.value
    ∙ c.in_ok-marks.ensures.marks i inside
    ∙ lt-ltb i c.mandatory_count-first.result l
