use Rattle.std.proofs.Common.{◌≡◌, ◌++◌, ◌∷◌, [], List, ap, sym, subst}
use Rattle.esr_history.specs.declared.event.Entry.{Entry}
use Rattle.esr_history.specs.Machine.{Schedule}
use Rattle.esr_replay.specs.Replays.{so_far}
use Rattle.esr_why.specs.Waits.{AreLastEntries}
use Rattle.esr_why.proofs.reasons.Reporter.step.Goals as goal

pub returns : goal.returns
returns c =
    let s = c.args.self.now in let e = c.args.entry in
    let entries : (so_far c.step.new.self).entries ≡ (so_far s.replay).entries ++ e ∷ [] = ap (λ (h : Schedule). h.entries) (c.in_ok-step.ensures.extended e c.requires.entry) in
    subst (λ (es : List Entry). AreLastEntries es c.note.new.self.places.items) (sym entries) (c.note.ensures (so_far s.replay).entries c.requires.place c.requires.last_entries)
