use Rattle.std.proofs.Common.{◌++◌, take, take_all, rules, subst, sym}
use Rattle.std.proofs.KnownBytes.{Appends-trans}
use Rattle.std.specs.Io.KnownBytes.{Appends}
use Rattle.esr_base.specs.Watch.{inner}
use Rattle.esr_drive.proofs.Parted.{text, text_more, text_begins, on_err}
use Rattle.esr_drive.proofs.parts.send_each.Goals as goal

pub loop-part-preserved : goal.loop-part-preserved
loop-part-preserved g c =
    let parts = c.args.parts.now in
    let i = c.loop-part.part-index in
    let part = c.part-item.result in
    let more = text_more parts i part c.loop-part-test.true c.part-item.is in
    let sent = rw c.deref.ensures.value at c.in_ok-send_all.ensures.ok in
    record {
      written = subst (λ l. Appends (g.W.Write.contents (inner c.args.writer.now)) (g.W.Write.contents (inner c.send_all.new.self)) l) (sym more) (Appends-trans _ _ _ _ _ c.loop-part.invariant.written sent);
      failed = search rules;
    }

pub returns-clause-ok : goal.returns-clause-ok
returns-clause-ok g c = rw (take_all c.loop-part.part-index c.args.parts.now c.loop-part-test.false) at c.loop-part.invariant.written

pub returns-in_err-send_all-clause-err : goal.returns-in_err-send_all-clause-err
returns-in_err-send_all-clause-err g c =
    let parts = c.args.parts.now in
    let i = c.loop-part.part-index in
    let failed = c.in_err-send_all.ensures.err in
    let sent = failed.0 in
    let front = text_begins parts i c.part-item.result sent c.loop-part-test.true c.part-item.is (rw c.deref.ensures.value at failed.1) in
    let all = Appends-trans _ _ _ _ _ c.loop-part.invariant.written failed.2 in
    on_err c.from_residual.result (text (take i parts) ++ sent, front, all)
