use Rattle.std.proofs.Common.{◌+◌, refl, arith, map}
use Rattle.esr_audit.proofs.RangeLaws.{number_more}
use Rattle.esr_audit.proofs.ranges.push_range.Goals as goal

pub loop-number-preserved : goal.loop-number-preserved
loop-number-preserved c = record {
  so_far = number_more c.loop-number.txns.items c.push.new.self.items (map (λ t. t.0) c.args.txns.now.items) c.args.range.first c.loop-number.number (c.loop-number.number + 1)
      c.loop-number.invariant.so_far c.in_ok-push.ensures.items c.loop-number.auto.number refl;
  within = omega (arith, c.loop-number-test.true, c.loop-number.auto.number);
}
