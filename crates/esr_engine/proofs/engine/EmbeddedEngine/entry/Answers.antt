use Rattle.std.proofs.Common.{◌≡◌, ◌∙◌, ◌<◌, ap, subst, sym, length, Some, IfSome, slice_get}
use Rattle.esr_items.specs.Weights.{weighted}
use Rattle.esr_history.specs.BackLinks.{accepted_item}
use Rattle.esr_history.specs.Machine.{Schedule}
use Rattle.esr_engine.proofs.CarriedParts.{item_exists}
use Rattle.esr_engine.proofs.engine.EmbeddedEngine.entry.Goals as goal

pub returns-clause-item : goal.returns-clause-item
returns-clause-item c =
    let is : slice_get c.self.inside.machine.entries c.args.i ≡ Some c.in-Some.entry = sym (c.in-Some.ensures ∙ ap (λ es. slice_get es c.args.i) c.log.ensures.entries) in
    subst (λ (h : Schedule). IfSome (accepted_item c.in-Some.entry) (λ x. x < length h.opening)) c.self.view_is
    (item_exists weighted c.self.inside.machine c.log.ensures.legal c.args.i c.in-Some.entry is)
