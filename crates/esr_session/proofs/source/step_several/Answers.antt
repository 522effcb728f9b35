use Rattle.std.proofs.Common.{◌≡◌, ◌∙◌, arith, false, sym, subst, List}
use Rattle.esr_session.specs.Receipts.{IsReceipt, Receipt, is_blocked}
use Rattle.esr_session.proofs.Calls.{one_more, free_but_last}
use Rattle.esr_session.proofs.source.step_several.Goals as goal

pub returns-then-is_blocked-clause-receipts : goal.returns-then-is_blocked-clause-receipts
returns-then-is_blocked-clause-receipts g c =
    let more = one_more (IsReceipt g.M.Metric.distance_by g.N.Naming.opening g.N.Naming.weights) c.args.pocket.now c.loop-count.pocket c.step_on.new.pocket c.loop-count.count c.in_ok-receipt.receipt c.loop-count.invariant.0 c.in_ok-receipt.ensures.pocket c.in_ok-receipt.ensures.receipt in
    (more.0, more.1, omega (arith, more.2, c.loop-count-test.true), more.3, sym more.2)

pub loop-count-preserved : goal.loop-count-preserved
loop-count-preserved g c =
    let inv = c.loop-count.invariant in
    let r = c.in_ok-receipt.receipt in (
      one_more (IsReceipt g.M.Metric.distance_by g.N.Naming.opening g.N.Naming.weights) c.args.pocket.now c.loop-count.pocket c.step_on.new.pocket c.loop-count.count r inv.0 c.in_ok-receipt.ensures.pocket c.in_ok-receipt.ensures.receipt,
      λ first was. subst (λ (rs : List Receipt). g.A.EventSource.Became first rs c.on_reply.new.self) (sym c.in_ok-receipt.ensures.pocket) (c.on_reply.ensures first c.loop-count.pocket (inv.1 first was)),
      λ none. absurd (omega (arith, none)),
      one_more (λ (s : Receipt). is_blocked s.reply ≡ false) c.args.pocket.now c.loop-count.pocket c.step_on.new.pocket c.loop-count.count r inv.3 c.in_ok-receipt.ensures.pocket (sym c.is_blocked.ensures ∙ c.if-is_blocked.false),
    )

pub returns-then-is_blocked-clause-held : goal.returns-then-is_blocked-clause-held
returns-then-is_blocked-clause-held g c = free_but_last c.args.pocket.now c.loop-count.pocket c.step_on.new.pocket c.loop-count.count c.in_ok-receipt.receipt c.loop-count.invariant.3 c.in_ok-receipt.ensures.pocket
