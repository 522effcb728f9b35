use Rattle.std.proofs.Common.{◌∙◌, ◌≤◌, ap, subst, sym}
use Rattle.esr_items.specs.Weights.{weighted}
use Rattle.esr_history.specs.Machine.{Schedule, IsLegal}
use Rattle.esr_core.specs.Carried.{IsCarriedOver}
use Rattle.esr_core.proofs.Renewed.{as_one}
use Rattle.esr_engine.specs.Capacity.{taken}
use Rattle.esr_engine.proofs.CarriedEngine.{carried_over, room_kept}
use Rattle.esr_engine.proofs.engine.EmbeddedEngine.renew_carrying.Goals as goal

pub returns-clause-over : goal.returns-clause-over
returns-clause-over c =
    subst (IsCarriedOver weighted c.args.self.now) (sym (c.replace_by.ensures ∙ c.in_ok-next.ensures.carried))
    (carried_over c.args.self.now (subst (IsLegal weighted) c.self.view_is c.log-invariant.ensures.legal))

pub returns-clause-serializable_as_one : goal.returns-clause-serializable_as_one
returns-clause-serializable_as_one c =
    λ later goes_on. as_one weighted c.args.self.now _ (subst (IsLegal weighted) c.self.view_is c.log-invariant.ensures.legal) goes_on (ap (λ (g : Schedule). g.opening) (c.replace_by.ensures ∙ c.in_ok-next.ensures.carried))

pub returns-clause-room : goal.returns-clause-room
returns-clause-room c = subst (λ (g : Schedule). taken g ≤ taken c.args.self.now) (sym (c.replace_by.ensures ∙ c.in_ok-next.ensures.carried)) (room_kept c.args.self.now)
