use Rattle.std.proofs.Common.{◌≡◌, ◌∙◌, List, ap, subst, length, slice_get, IfSome}
use Rattle.esr_history.specs.declared.event.Entry.{Entry}
use Rattle.esr_history.specs.Machine.{Schedule, reply_to}
use Rattle.esr_replay.specs.Replays.{so_far}
use Rattle.esr_replay.proofs.Replaying.{reply_next}
use Rattle.esr_replay.proofs.replay.Replay.next.Goals as goal

pub returns-clause-reply : goal.returns-clause-reply
returns-clause-reply g c =
    let h = c.self.inside.history.now.schedule in let n = length c.self.inside.machine.entries in
    let is : c.get.result ≡ slice_get h.entries n =
    c.get.ensures ∙ (ap (λ (es : List Entry). slice_get es c.len.result) c.log.ensures.entries ∙ ap (slice_get h.entries) (c.len.ensures ∙ ap length c.log-2.ensures.entries)) in
    subst (λ (s : Schedule). IfSome c.get.result (λ e. e.reply ≡ reply_to g.M.Metric.distance_by s e.event)) (ap so_far c.self.view_is)
    (reply_next g.M.Metric.distance_by h n c.log.ensures.legal c.get.result is)
