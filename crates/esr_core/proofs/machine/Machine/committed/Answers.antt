use Rattle.std.proofs.Common.{ap, ◌∙◌, ◌<◌, subst, sym, length, w64}
use Rattle.std.proofs.lemmas.Int.{to_z-of_z}
use Rattle.esr_history.specs.Events.{committed_value}
use Rattle.esr_history.specs.Machine.{Schedule, accepted_in}
use Rattle.esr_core.proofs.machine.Machine.committed.Goals as goal

pub returns-clause-value : goal.returns-clause-value
returns-clause-value g c =
    let at = c.args.x.0 in let within = subst (λ (h : Schedule). at < length h.opening) (sym c.self.view_is) c.requires in
    to_z-of_z w64 c.committed.result (record { sfits = c.committed.type_inv })
    ∙ (c.committed.ensures.value ∙ (c.self.invariant.0.committed at within ∙ ap (λ (h : Schedule). committed_value h.opening (accepted_in h) at) c.self.view_is))
