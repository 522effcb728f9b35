use Rattle.esr_engine.proofs.CarriedParts.{begin_next}
use Rattle.esr_engine.proofs.engine.EmbeddedEngine.begins.Goals as goal

pub loop-i-preserved : goal.loop-i-preserved
loop-i-preserved c =
    begin_next c.args.self.now c.args.active.now c.requires.active c.loop-i.i c.loop-i-test.true c.args.carried.now c.requires.carried
    c.loop-i.entries.items _ c.begin_entry.result c.begin_entry.ensures.event c.begin_entry.ensures.reply c.loop-i.invariant c.in_ok-push.ensures.items
