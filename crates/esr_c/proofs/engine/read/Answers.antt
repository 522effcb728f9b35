use Rattle.std.proofs.Common.{◌≡◌, Some, rules}
use Rattle.esr_history.specs.declared.event.Event.TheVariants.{Read}
use Rattle.esr_c.proofs.Called.{called}
use Rattle.esr_c.proofs.engine.read.Goals as goal

pub returns : goal.returns
returns c =
    let reported = c.store_reply-status.ensures in
    let before : c.args.variable.now.handle.history ≡ Some c.deref_mut.result.now = search rules in
    rw (before, c.into_handle-variable.ensures)
    (called (Read c.args.txn c.args.item) c.deref_mut.result.now c.read.new.self c.args.reply.now c.store_reply-status.new.reply c.read.result c.store_reply-status.result
    c.read.ensures.reply c.read.ensures.added c.read.ensures.full c.read.ensures.err reported.ok reported.full reported.err)
