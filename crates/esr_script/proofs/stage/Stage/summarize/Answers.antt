use Rattle.std.proofs.Common.{◌≡◌, IfOk, sym, ap, subst}
use Rattle.esr_items.specs.Weights.{weighted}
use Rattle.esr_audit.specs.Findings.{summary_of}
use Rattle.esr_least.specs.Audits.{audit_fields}
use Rattle.esr_script.specs.Stages.{history_of}
use Rattle.esr_script.proofs.stage.Stage.summarize.Goals as goal

pub returns-clause-summary : goal.returns-clause-summary
returns-clause-summary c =
    subst (λ h. IfOk c.summarize.result (λ a. audit_fields a ≡ summary_of weighted h c.args.q.0)) (sym (ap history_of c.in-Running.is))
    (rw c.deref_mut.ensures.value at c.summarize.ensures.summary)
