use Rattle.std.proofs.Common.{◌≡◌, ◌↔◌, Some, IfOk, IsErrOf, true, rules}
use Rattle.esr_items.specs.Weights.{weighted}
use Rattle.esr_history.specs.declared.event.Event.TheVariants.{Write}
use Rattle.esr_history.specs.Machine.{extended, reply_to}
use Rattle.esr_engine.specs.Capacity.{is_full}
use Rattle.esr_engine.specs.declared.engine.EngineError.TheVariants as unanswered
use Rattle.esr_c.proofs.Called.{called}
use Rattle.esr_c.proofs.engine.write.Goals as goal

pub returns : goal.returns
returns c =
    let event = Write c.args.txn c.args.item c.args.value in
    let h = c.deref_mut.result.now in
    let reported = c.store_reply-status.ensures in
    let before : c.args.variable.now.handle.history ≡ Some h = search rules in
    let replied : IfOk c.write.result (λ r. r ≡ reply_to weighted h event) = search rules in
    let added : IfOk c.write.result (λ r. c.write.new.self ≡ extended h event r) = search rules in
    let full : IsErrOf c.write.result unanswered.Full ↔ (is_full h event ≡ true) = search rules in
    rw (before, c.into_handle-variable.ensures)
    (called event h c.write.new.self c.args.reply.now c.store_reply-status.new.reply c.write.result c.store_reply-status.result replied added full c.write.ensures.err reported.ok reported.full reported.err)
