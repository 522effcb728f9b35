use Rattle.std.proofs.Common.{◌≡◌, ◌∙◌, ◌+◌, ◌<◌, [], ap, ap₂, arith, refl, sym, length}
use Rattle.std.proofs.lemmas.List.{length_push}
use Rattle.std.proofs.lemmas.Option.{same_Some, slice_get_within}
use Rattle.esr_history.specs.declared.event.Entry.{Entry}
use Rattle.esr_history.specs.Events.{is_refusal}
use Rattle.esr_history.specs.Machine.{Schedule, extended, reply_to}
use Rattle.esr_replay.specs.Replays.{Progress, so_far, until}
use Rattle.esr_replay.proofs.Replaying.{grow_accepted, grow_is, grow_refused, not_refused, until_next}
use Rattle.esr_replay.proofs.replay.Replay.step.Goals as goal

pub invariant_of-self-in-Refused : goal.invariant_of-self-in-Refused
invariant_of-self-in-Refused g c =
    let D = g.M.Metric.distance_by in let p = c.args.self.now in let e = c.in-Some.entry in let r = c.in-Ok.reply in
    let old : Schedule = c.self.inside.machine in let new : Schedule = c.step_with_charges.new.self in
    let at : old ≡ so_far p = c.self.invariant ∙ ap so_far c.self.view_is in
    let same : r ≡ e.reply = c.in-Ok.ensures.reply ∙ (ap (λ (s : Schedule). reply_to D s e.event) at ∙ sym c.in-Some.ensures.reply) in
    let longer : new ≡ extended (so_far p) e.event e.reply = c.in-Ok.ensures.added ∙ ap₂ (λ (s : Schedule) r. extended s e.event r) at same in
    let count : length new.entries ≡ p.count + 1 = ap (λ (s : Schedule). length s.entries) c.in-Ok.ensures.added ∙ (length_push old.entries (record { event = e.event; reply = r }) ∙ ap (λ (x : Progress). x.count + 1) c.self.view_is) in
    longer ∙ (until_next p.history p.count e (sym c.in-Some.ensures.entry) ∙ ap₂ until (sym count) (ap (λ (x : Progress). x.history) (sym c.self.view_is)))

pub invariant_of-self-in-Ok : goal.invariant_of-self-in-Ok
invariant_of-self-in-Ok g c =
    let D = g.M.Metric.distance_by in let p = c.args.self.now in let e = c.in-Some.entry in let r = c.in-Ok.reply in
    let old : Schedule = c.self.inside.machine in let new : Schedule = c.step_with_charges.new.self in
    let at : old ≡ so_far p = c.self.invariant ∙ ap so_far c.self.view_is in
    let same : r ≡ e.reply = c.in-Ok.ensures.reply ∙ (ap (λ (s : Schedule). reply_to D s e.event) at ∙ sym c.in-Some.ensures.reply) in
    let longer : new ≡ extended (so_far p) e.event e.reply = c.in-Ok.ensures.added ∙ ap₂ (λ (s : Schedule) r. extended s e.event r) at same in
    let count : length new.entries ≡ p.count + 1 = ap (λ (s : Schedule). length s.entries) c.in-Ok.ensures.added ∙ (length_push old.entries (record { event = e.event; reply = r }) ∙ ap (λ (x : Progress). x.count + 1) c.self.view_is) in
    longer ∙ (until_next p.history p.count e (sym c.in-Some.ensures.entry) ∙ ap₂ until (sym count) (ap (λ (x : Progress). x.history) (sym c.self.view_is)))

pub returns-in-Refused-clause-last : goal.returns-in-Refused-clause-last
returns-in-Refused-clause-last g c = λ past.
    let p = c.args.self.now in
    let within : p.count < length p.history.entries = slice_get_within p.history.entries p.count c.in-Some.entry (sym c.in-Some.ensures.entry) in
    absurd (omega (arith, within, past))

pub returns-in-Refused-clause-extended : goal.returns-in-Refused-clause-extended
returns-in-Refused-clause-extended g c = λ f is.
    let D = g.M.Metric.distance_by in let p = c.args.self.now in let e = c.in-Some.entry in let r = c.in-Ok.reply in
    let at : c.self.inside.machine ≡ so_far p = c.self.invariant ∙ ap so_far c.self.view_is in
    let same : r ≡ e.reply = c.in-Ok.ensures.reply ∙ (ap (λ (s : Schedule). reply_to D s e.event) at ∙ sym c.in-Some.ensures.reply) in
    let longer : c.step_with_charges.new.self ≡ extended (so_far p) e.event e.reply = c.in-Ok.ensures.added ∙ ap₂ (λ (s : Schedule) r. extended s e.event r) at same in
    sym (invariant_of-self-in-Refused g c) ∙ (longer ∙ ap (λ (x : Entry). extended (so_far p) x.event x.reply) (same_Some e f (c.in-Some.ensures.entry ∙ is)))

pub returns-in-Refused-clause-imports : goal.returns-in-Refused-clause-imports
returns-in-Refused-clause-imports g c =
    let D = g.M.Metric.distance_by in let p = c.args.self.now in let e = c.in-Some.entry in let r = c.in-Ok.reply in
    let old : Schedule = c.self.inside.machine in
    let at : old ≡ so_far p = c.self.invariant ∙ ap so_far c.self.view_is in
    grow_is D old (extended old e.event r) _ _ [] _ at (sym c.in-Ok.ensures.added ∙ invariant_of-self-in-Refused g c) (sym c.clear-in-Refused.ensures.items)
    (grow_refused D old e.event r (ap is_refusal c.in-Refused.is))

pub returns-in_default-reply : goal.returns-in_default-reply
returns-in_default-reply g c =
    let D = g.M.Metric.distance_by in let p = c.args.self.now in let e = c.in-Some.entry in let r = c.in-Ok.reply in
    let old : Schedule = c.self.inside.machine in let new : Schedule = c.step_with_charges.new.self in
    let at : old ≡ so_far p = c.self.invariant ∙ ap so_far c.self.view_is in
    let same : r ≡ e.reply = c.in-Ok.ensures.reply ∙ (ap (λ (s : Schedule). reply_to D s e.event) at ∙ sym c.in-Some.ensures.reply) in
    let longer : new ≡ extended (so_far p) e.event e.reply = c.in-Ok.ensures.added ∙ ap₂ (λ (s : Schedule) r. extended s e.event r) at same in
    let count : length new.entries ≡ p.count + 1 = ap (λ (s : Schedule). length s.entries) c.in-Ok.ensures.added ∙ (length_push old.entries (record { event = e.event; reply = r }) ∙ ap (λ (x : Progress). x.count + 1) c.self.view_is) in
    let history = ap (λ (x : Progress). x.history) c.self.view_is in
    let here : new ≡ until (length new.entries) c.self.inside.history.now.schedule = longer ∙ (until_next p.history p.count e (sym c.in-Some.ensures.entry) ∙ ap₂ until (sym count) (sym history)) in
    let within : p.count < length p.history.entries = slice_get_within p.history.entries p.count e (sym c.in-Some.ensures.entry) in
    record {
      history = history;
      last = λ past. absurd (omega (arith, within, past));
      next = λ l. count;
      extended = λ f is. sym here ∙ (longer ∙ ap (λ (x : Entry). extended (so_far p) x.event x.reply) (same_Some e f (c.in-Some.ensures.entry ∙ is)));
      imports = grow_is D old (extended old e.event r) _ _ c.step_with_charges.new.charges.items _ at (sym c.in-Ok.ensures.added ∙ here) refl
          (grow_accepted D old e.event r c.step_with_charges.new.charges.items (not_refused r c.in_default-reply.not-Refused) c.in-Ok.ensures.charges);
      err = tt;
    }
