use Rattle.std.proofs.Common.{◌∙◌, ◌-◌, ap, arith}
use Rattle.esr_engine.proofs.CarriedParts.{settled_end, settled_next}
use Rattle.esr_engine.proofs.engine.EmbeddedEngine.settled.Goals as goal

pub loop-i-preserved : goal.loop-i-preserved
loop-i-preserved c =
    settled_next c.args.self.now c.args.operations.now c.args.t.query c.args.t.txn.0 c.loop-i.i c.operation.result c.loop-i.settled _ c.operation.ensures.entry c.loop-i.invariant
    (c.saturating_sub-settled.ensures ∙ ap (λ n. c.loop-i.settled - n) c.open_amount-amount.ensures)

pub returns : goal.returns
returns c =
    settled_end c.args.self.now c.args.operations.now c.requires.operations c.args.t.query c.args.t.txn.0 c.loop-i.i c.loop-i.settled c.loop-i.invariant (omega (arith, c.loop-i-test.false, c.loop-i.auto.i-end)) c.requires.query
