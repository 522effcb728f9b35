use Rattle.std.proofs.Common.{◌≡◌, ◌∙◌, ap, sym, subst, Option, Some}
use Rattle.esr_history.specs.Machine.{Schedule}
use Rattle.esr_c.specs.Answers.{IsForUpdateCall, status_number}
use Rattle.esr_c.proofs.ForUpdate.{call_of}
use Rattle.esr_c.proofs.engine.read_for_update.Goals as goal

pub returns : goal.returns
returns c =
    let reported = c.store_read_for_update-status.ensures in
    let h : Schedule = c.deref_mut.result.now in
    let g : Schedule = c.store_read_for_update-status.new.engine in
    let reply = c.store_read_for_update-status.new.reply in
    let n = status_number c.store_read_for_update-status.result in
    let before : c.args.variable.now.handle.history ≡ Some h = c.in-Some.ensures.engine ∙ ap (λ (k : Schedule). Some k) (sym c.deref_mut.ensures.value) in
    subst (λ (o : Option Schedule). IsForUpdateCall c.args.txn c.args.item o c.variable_with.result.handle.history c.args.reply.now reply n) (sym before)
    (subst (λ (o : Option Schedule). IsForUpdateCall c.args.txn c.args.item (Some h) o c.args.reply.now reply n) (sym c.variable_with.ensures)
    (call_of c.args.txn c.args.item h g c.args.reply.now reply c.store_read_for_update-status.result reported.statuses reported.full reported.done reported.err reported.unchanged_if_full))
