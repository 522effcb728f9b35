use Rattle.std.proofs.Common.{rules, ◌≡◌, ◌<◌, length, ◌++◌, ◌∷◌, [], true, List, ap, sym, ◌∙◌, append_assoc, length-append, arith}
use Rattle.esr_session.specs.Receipts.{AreBlocked, is_blocked, Receipt}
use Rattle.esr_session.proofs.Calls.{blocked_more, if_err}
use Rattle.esr_session.proofs.session.Session.call_patient.Goals as goal

pub returns-in_err-last-2-clause-err : goal.returns-in_err-last-2-clause-err
returns-in_err-last-2-clause-err g c =
    let inv = c.loop-turn.invariant in
    let last = c.loop-turn.last in
    let blocked : is_blocked last.reply ≡ true = sym c.is_blocked.ensures ∙ c.if-not-is_blocked.false in
    let all : (rs : List Receipt) × (c.call-in-loop-turn.new.self ≡ c.args.self.now ++ rs) × AreBlocked g.M.Metric.distance_by g.N.Naming.opening g.N.Naming.weights c.args.event rs × (length rs < c.args.turns) = (
      inv.0 ++ last ∷ [],
      c.in_err-last-2.ensures.err ∙ (inv.1 ∙ append_assoc c.args.self.now inv.0 (last ∷ [])),
      blocked_more g.M.Metric.distance_by g.N.Naming.opening g.N.Naming.weights c.args.event inv.0 last inv.2 inv.4 inv.5 blocked,
      omega (arith, length-append inv.0 (last ∷ []), inv.3, c.loop-turn-test.true),
    ) in
    if_err _ _ all

pub loop-turn-preserved : goal.loop-turn-preserved
loop-turn-preserved g c =
    let inv = c.loop-turn.invariant in
    let last = c.loop-turn.last in
    let next = c.in_ok-last-2.last in
    let blocked : is_blocked last.reply ≡ true = sym c.is_blocked.ensures ∙ c.if-not-is_blocked.false in
    let so_far : c.loop-turn.self ≡ c.args.self.now ++ (inv.0 ++ last ∷ []) = inv.1 ∙ append_assoc c.args.self.now inv.0 (last ∷ []) in (
      inv.0 ++ last ∷ [],
      c.in_ok-last-2.ensures.pocket ∙ ap (λ (rs : List Receipt). rs ++ next ∷ []) so_far,
      blocked_more g.M.Metric.distance_by g.N.Naming.opening g.N.Naming.weights c.args.event inv.0 last inv.2 inv.4 inv.5 blocked,
      omega (arith, length-append inv.0 (last ∷ []), inv.3),
      c.in_ok-last-2.ensures.event,
      c.in_ok-last-2.ensures.receipt,
    )

pub returns-clause-ok : goal.returns-clause-ok
returns-clause-ok g c = search rules
