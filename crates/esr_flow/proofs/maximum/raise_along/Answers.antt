use Rattle.std.proofs.Common.{◌≡◌, ◌+◌, get_or, set, take, sym, ◌∙◌, ap}
use Rattle.esr_flow.specs.Types.{ResidualArc, Forward}
use Rattle.esr_flow.specs.Residual.{raise, shift}
use Rattle.esr_flow.proofs.MaximumLaws.{raise_more}
use Rattle.esr_flow.proofs.maximum.raise_along.Goals as goal

pub loop-step-preserved : goal.loop-step-preserved
loop-step-preserved c =
    let s : ResidualArc = get_or c.args.path.now c.loop-step.step-index (Forward 0) in
    let more : raise c.args.flow.now c.args.amount (take (c.loop-step.step-index + 1) c.args.path.now) ≡ shift (raise c.args.flow.now c.args.amount (take c.loop-step.step-index c.args.path.now)) c.args.amount s =
    raise_more c.args.flow.now c.args.amount c.args.path.now c.loop-step.step-index (Forward 0) c.loop-step-test.true in (
      c.set_amount.ensures.flow
          ∙ ap (λ i. set c.loop-step.flow i c.amount_after-after.result) c.arc.ensures
          ∙ c.amount_after-after.ensures
          ∙ ap (λ f. shift f c.args.amount s) c.loop-step.invariant.0
          ∙ sym more,
      c.set_amount.ensures.entries,
    )
