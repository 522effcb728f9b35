use Rattle.std.proofs.Common.{ℕ, ◌≡◌, ◌↔◌, ◌<◌, ◌∙◌, ap, length, subst, sym, Option, Some, IfSome}
use Rattle.esr_items.specs.Weights.{weighted}
use Rattle.esr_history.specs.Machine.{Schedule, accepted_in}
use Rattle.esr_core.specs.Carried.{carried}
use Rattle.esr_engine.specs.Capacity.{active_count}
use Rattle.esr_c.proofs.esr_renew_carrying.Goals as goal

pub returns-clause-renewed : goal.returns-clause-renewed
returns-clause-renewed c done =
    subst (λ (old : Option Schedule). IfSome old (λ h. c.variable_with.result.handle.history ≡ Some (carried weighted h))) (sym c.in-Some.ensures.engine)
    (c.variable_with.ensures ∙ ap (λ h. Some h) (c.renew_engine_carrying-status.ensures.renewed (sym c.number-2.ensures ∙ done) ∙ ap (carried weighted) c.deref_mut.ensures.value))

pub returns-clause-small : goal.returns-clause-small
returns-clause-small c =
    let fits : ℕ → Schedule → Type 0 = λ n h. (n ≡ 7) ↔ (length c.args.txns.now < active_count (accepted_in h)) in
    subst (λ (old : Option Schedule). IfSome old (fits c.number-2.result)) (sym c.in-Some.ensures.engine)
    (subst (fits c.number-2.result) c.deref_mut.ensures.value
    (subst (λ (n : ℕ). fits n c.deref_mut.result.now) (sym c.number-2.ensures) c.renew_engine_carrying-status.ensures.small))
