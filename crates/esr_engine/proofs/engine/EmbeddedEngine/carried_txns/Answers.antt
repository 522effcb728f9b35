use Rattle.esr_engine.proofs.CarriedParts.{carried_next, query_at}
use Rattle.esr_engine.proofs.engine.EmbeddedEngine.carried_txns.Goals as goal

pub settled-requires-clause-query : goal.settled-requires-clause-query
settled-requires-clause-query c = query_at c.args.self.now c.args.active.now c.requires.active c.loop-t.t-index c.loop-t-test.true

pub loop-t-preserved : goal.loop-t-preserved
loop-t-preserved c =
    carried_next c.args.self.now c.args.active.now c.requires.active c.loop-t.t-index c.loop-t-test.true c.loop-t.carried.items _ c.new_number.result c.settled.result
    c.new_number.ensures c.settled.ensures c.loop-t.invariant c.in_ok-push.ensures.items
