use Rattle.std.proofs.Common.{◌∙◌, ap₂, max, sym}
use Rattle.esr_explore.specs.Severity.{amount_of}
use Rattle.esr_explore.proofs.Greatest.{greatest_more}
use Rattle.esr_explore.proofs.summary.greatest.Goals as goal

pub loop-inconsistency-preserved : goal.loop-inconsistency-preserved
loop-inconsistency-preserved c =
    c.max-greatest.ensures
    ∙ (ap₂ max c.loop-inconsistency.invariant c.amount_of.ensures
    ∙ sym (greatest_more (amount_of c.args.measure) c.args.inconsistencies.now c.loop-inconsistency.inconsistency-index _ c.loop-inconsistency-test.true))
