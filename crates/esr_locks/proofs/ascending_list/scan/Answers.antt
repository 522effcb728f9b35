use Rattle.std.proofs.Common.{arith}
use Rattle.esr_locks.proofs.Shorts.{gap_after}
use Rattle.esr_locks.proofs.ascending_list.scan.Goals as goal

pub returns-then-number-t-2-clause-absent : goal.returns-then-number-t-2-clause-absent
returns-then-number-t-2-clause-absent g c =
    gap_after g.R.Numbered.number c.args.t.0 c.loop-end.end c.args.elements.now c.index-elements-end.result c.requires (omega (arith, c.loop-end-test.true)) c.loop-end.invariant.in_range c.index-elements-end.is (omega (arith, c.if-number-t-2.true, c.number-number.ensures)) c.loop-end.invariant.above
