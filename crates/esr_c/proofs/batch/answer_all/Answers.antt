use Rattle.std.proofs.Common.{◌≡◌, ◌∙◌, ◌<◌, ℕ, pos, true, refl, ap, Err, sym, subst, arith, length}
use Rattle.std.proofs.lemmas.Bool.{true≢false}
use Rattle.esr_c.specs.Answers.{status_number}
use Rattle.esr_c.specs.Many.{IsEnd}
use Rattle.esr_c.specs.declared.engine.Status.{Status}
use Rattle.esr_c.specs.declared.batch.EsrEvent.{EsrEvent}
use Rattle.esr_c.proofs.InTurn.{accepted_more, all_done, answered_more, ended, stopped}
use Rattle.esr_c.proofs.batch.answer_all.Goals as goal
use Rattle.esr_c.proofs.batch.answer_all.Goals.{else-stop-via-then-stop+else-is_refusal, else-stop-via-else-stop}

-- an event in place of one that there is not
none : EsrEvent
none = record { kind = 0; txn = 0; item = 0; limit = 0; value = pos 0 }

pub returns-in-Err-clause-end : goal.returns-in-Err-clause-end
unfolding none
returns-in-Err-clause-end c =
    let within : c.loop-i.i < length c.args.events.now = omega (arith, c.loop-i-test.true) in
    let so_far = c.loop-i.invariant in
    subst (λ (n : ℕ). IsEnd c.args.engine.now c.args.events.now c.args.stop n (status_number c.in-Err.why)) (sym so_far.counted)
    (ended c.args.engine.now c.loop-i.engine c.args.events.now c.loop-i.i c.loop-i.replies none so_far.answered within
    c.args.stop c.in-Err.why so_far.accepted c.in-Err.ensures.statuses.1
    (λ is. c.in-Err.ensures.unknown (ap (λ (e : Status). Err e) is)) (λ is. c.in-Err.ensures.full (ap (λ (e : Status). Err e) is)))

pub returns-then-is_refusal-clause-answered : goal.returns-then-is_refusal-clause-answered
unfolding none
returns-then-is_refusal-clause-answered c =
    let within : c.loop-i.i < length c.args.events.now = omega (arith, c.loop-i-test.true) in
    let has_capacity : c.loop-i.i < length c.loop-i.replies = omega (arith, c.loop-i.auto.replies, c.requires.fits, within) in
    answered_more c.args.engine.now c.loop-i.engine c.args.events.now c.loop-i.i c.loop-i.replies none c.loop-i.invariant.answered within
    c.in-Ok.reply c.answer_one.new.engine c.in-Ok.ensures.ok c.to_reply.result c.to_reply.ensures has_capacity

pub returns-then-is_refusal-clause-end : goal.returns-then-is_refusal-clause-end
unfolding none
returns-then-is_refusal-clause-end c =
    let within : c.loop-i.i < length c.args.events.now = omega (arith, c.loop-i-test.true) in
    stopped c.args.engine.now c.loop-i.engine c.args.events.now c.loop-i.i c.loop-i.replies none c.loop-i.invariant.answered within
    c.in-Ok.reply c.answer_one.new.engine c.in-Ok.ensures.ok c.args.stop c.if-stop.true (sym c.is_refusal.ensures ∙ c.if-is_refusal.true)
    (c.loop-i.invariant.accepted c.if-stop.true)

pub loop-i-preserved : goal.loop-i-preserved
unfolding none
loop-i-preserved c =
    let within : c.loop-i.i < length c.args.events.now = omega (arith, c.loop-i-test.true) in
    let has_capacity : c.loop-i.i < length c.loop-i.replies = omega (arith, c.loop-i.auto.replies, c.requires.fits, within) in
    record {
      answered = answered_more c.args.engine.now c.loop-i.engine c.args.events.now c.loop-i.i c.loop-i.replies none c.loop-i.invariant.answered within
          c.in-Ok.reply c.answer_one.new.engine c.in-Ok.ensures.ok c.to_reply.result c.to_reply.ensures has_capacity;
      counted = refl;
      accepted = λ is. elim c.else-stop.branch [
        | else-stop-via-then-stop+else-is_refusal w ↦
            accepted_more c.args.engine.now c.loop-i.engine c.args.events.now c.loop-i.i c.loop-i.replies none c.loop-i.invariant.answered within
            c.in-Ok.reply c.answer_one.new.engine c.in-Ok.ensures.ok (sym w.is_refusal.ensures ∙ w.if-is_refusal.false) (c.loop-i.invariant.accepted is)
        | else-stop-via-else-stop w ↦ absurd (true≢false (sym is ∙ w.if-stop.false))
      ];
    }

pub returns-clause-end : goal.returns-clause-end
returns-clause-end c =
    let all : c.loop-i.i ≡ length c.args.events.now = omega (arith, c.loop-i-test.false, c.loop-i.auto.i-end) in
    subst (λ (n : ℕ). IsEnd c.args.engine.now c.args.events.now c.args.stop n 0) (sym c.loop-i.invariant.counted)
    (all_done c.args.engine.now c.args.events.now c.args.stop c.loop-i.i all c.loop-i.invariant.accepted)
