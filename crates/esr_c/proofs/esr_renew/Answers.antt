use Rattle.std.proofs.Common.{◌≡◌, ◌∙◌, ap, subst, sym, Option, Some, IfSome}
use Rattle.esr_history.specs.Machine.{Schedule}
use Rattle.esr_core.specs.Renewed.{renewed}
use Rattle.esr_c.proofs.esr_renew.Goals as goal

pub returns-clause-renewed : goal.returns-clause-renewed
returns-clause-renewed c done =
    let next : Schedule → Schedule = λ h. renewed h h.weights in
    subst (λ (old : Option Schedule). IfSome old (λ h. c.variable_with.result.handle.history ≡ Some (next h))) (sym c.in-Some.ensures.engine)
    (c.variable_with.ensures ∙ ap (λ h. Some h) (c.renew_engine-status.ensures.renewed (sym c.number-2.ensures ∙ done) ∙ ap next c.deref_mut.ensures.value))
