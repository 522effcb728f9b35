use Rattle.std.proofs.Common.{◌≡◌, ◌≤◌, ◌+◌, ◌∙◌, ℕ, ap, sym, subst, arith, false, true≢false, nat_lt, IfOk}
use Rattle.std.proofs.lemmas.Bool.Decides.{nat_tests}
use Rattle.esr_items.specs.Weights.{weighted}
use Rattle.esr_history.specs.declared.event.Event.{Event}
use Rattle.esr_history.specs.declared.event.Event.TheVariants.{Read}
use Rattle.esr_history.specs.declared.event.Reply.TheVariants.{Wrote}
use Rattle.esr_history.specs.Machine.{IsLegal, Schedule, extended, reply_to}
use Rattle.esr_history.proofs.LegalWellFormed.{legal_orderly}
use Rattle.esr_engine.specs.ForUpdate.{lock_event, no_pair}
use Rattle.esr_engine.specs.Capacity.{is_full, taken}
use Rattle.esr_engine.proofs.Active.{pair_capacity}
use Rattle.esr_engine.proofs.Locking.{Finished, finish, held_steps, taken_steps}
use Rattle.esr_engine.proofs.engine.EmbeddedEngine.read_for_update.Goals as goal
use Rattle.esr_engine.proofs.engine.EmbeddedEngine.read_for_update.Goals.{After-step, After-step-in-Ok-Wrote}

held : (c : After-step) → Finished c.args.self.now c.args.t c.args.x c.step.result c.step.new.self
held c =
    let h = c.args.self.now in
    let steps = held_steps h c.args.t c.args.x (sym c.has_lock.ensures ∙ c.if-has_lock.true) in
    finish h (legal_orderly weighted h (subst (IsLegal weighted) c.self.view_is c.log-invariant.ensures.legal)) c.args.t c.args.x c.step.result c.step.new.self h c.step.ensures.reply c.step.ensures.added steps.0 steps.1

pub returns-then-has_lock-clause-reply : goal.returns-then-has_lock-clause-reply
returns-then-has_lock-clause-reply c = (held (goal.at.returns-then-has_lock-clause-reply c).After-step).reply

pub returns-then-has_lock-clause-added : goal.returns-then-has_lock-clause-added
returns-then-has_lock-clause-added c = (held (goal.at.returns-then-has_lock-clause-added c).After-step).added

pub returns-then-has_lock-clause-held : goal.returns-then-has_lock-clause-held
returns-then-has_lock-clause-held c = (held (goal.at.returns-then-has_lock-clause-held c).After-step).held

-- the write was accepted, and the state after it
wrote : (c : After-step-in-Ok-Wrote) → reply_to weighted c.args.self.now (lock_event c.args.self.now c.args.t c.args.x) ≡ Wrote
wrote c = ap (reply_to weighted c.args.self.now) (sym c.lock_event-lock.ensures) ∙ (sym c.in-Ok-Wrote.ensures.reply ∙ c.in-Ok-Wrote.field-0-is)

left : (c : After-step-in-Ok-Wrote) → c.step-2.new.self ≡ extended c.args.self.now (lock_event c.args.self.now c.args.t c.args.x) Wrote
left c =
    c.in-Ok-Wrote.ensures.added
    ∙ (ap (λ (e : Event). extended c.args.self.now e c.in-Ok-Wrote.field-0) c.lock_event-lock.ensures
    ∙ ap (extended c.args.self.now (lock_event c.args.self.now c.args.t c.args.x)) c.in-Ok-Wrote.field-0-is)

locks : (c : After-step-in-Ok-Wrote) → Finished c.args.self.now c.args.t c.args.x c.step-in-Ok-Wrote.result c.step-in-Ok-Wrote.new.self
locks c =
    let h = c.args.self.now in
    let t = c.args.t in
    let x = c.args.x in
    let steps = taken_steps h t x (sym c.has_lock.ensures ∙ c.if-has_lock.false) (wrote c) in
    finish h (legal_orderly weighted h (subst (IsLegal weighted) c.self.view_is c.log-invariant.ensures.legal)) t x c.step-in-Ok-Wrote.result c.step-in-Ok-Wrote.new.self (extended h (lock_event h t x) Wrote)
    (subst (λ (g : Schedule). IfOk c.step-in-Ok-Wrote.result (λ a. a ≡ reply_to weighted g (Read t x))) (left c) c.step-in-Ok-Wrote.ensures.reply)
    (subst (λ (g : Schedule). IfOk c.step-in-Ok-Wrote.result (λ a. c.step-in-Ok-Wrote.new.self ≡ extended g (Read t x) a)) (left c) c.step-in-Ok-Wrote.ensures.added)
    steps.1 steps.2

-- neither the pair nor the read was refused for lack of capacity
has_capacity : (c : After-step-in-Ok-Wrote) → (no_pair c.args.self.now ≡ false) × (is_full c.step-2.new.self (Read c.args.t c.args.x) ≡ false)
has_capacity c =
    let h = c.args.self.now in
    let upper_bound : taken h + 2 ≤ 1000000 = omega (arith, c.demand.ensures.taken, c.if-demand-gt-MAX_ENTRIES.false) in (
      not_lt (taken h + 2) upper_bound,
      subst (λ (g : Schedule). is_full g (Read c.args.t c.args.x) ≡ false) (sym (left c))
          (pair_capacity weighted h (legal_orderly weighted h (subst (IsLegal weighted) c.self.view_is c.log-invariant.ensures.legal)) c.args.t c.args.x _ upper_bound (wrote c)),
    )
  where
    not_lt : (n : ℕ) → n ≤ 1000000 → nat_lt 1000000 n ≡ false
    not_lt n l = grind (arith, nat_tests)

pub returns-in-Ok-Wrote-clause-reply : goal.returns-in-Ok-Wrote-clause-reply
returns-in-Ok-Wrote-clause-reply c = (locks (goal.at.returns-in-Ok-Wrote-clause-reply c).After-step-in-Ok-Wrote).reply

pub returns-in-Ok-Wrote-clause-added : goal.returns-in-Ok-Wrote-clause-added
returns-in-Ok-Wrote-clause-added c = (locks (goal.at.returns-in-Ok-Wrote-clause-added c).After-step-in-Ok-Wrote).added

pub returns-in-Ok-Wrote-clause-held : goal.returns-in-Ok-Wrote-clause-held
returns-in-Ok-Wrote-clause-held c = (locks (goal.at.returns-in-Ok-Wrote-clause-held c).After-step-in-Ok-Wrote).held

pub returns-in-Ok-Wrote-clause-full : goal.returns-in-Ok-Wrote-clause-full
returns-in-Ok-Wrote-clause-full c =
    let capacity = has_capacity (goal.at.returns-in-Ok-Wrote-clause-full c).After-step-in-Ok-Wrote in
    (λ e. absurd (true≢false (sym (c.step-in-Ok-Wrote.ensures.full.0 e) ∙ capacity.1)), λ p. absurd (true≢false (sym p ∙ capacity.0)))

pub returns-in-Ok-Wrote-clause-unchanged_if_full : goal.returns-in-Ok-Wrote-clause-unchanged_if_full
returns-in-Ok-Wrote-clause-unchanged_if_full c =
    let capacity = has_capacity (goal.at.returns-in-Ok-Wrote-clause-unchanged_if_full c).After-step-in-Ok-Wrote in
    λ e. absurd (true≢false (sym (c.step-in-Ok-Wrote.ensures.full.0 e) ∙ capacity.1))
