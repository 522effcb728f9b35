use Rattle.std.proofs.Common.{ap, ◌∙◌, ◌<◌, subst, sym, length, w64}
use Rattle.std.proofs.lemmas.Int.{to_z-of_z}
use Rattle.esr_history.specs.Events.{current_value}
use Rattle.esr_history.specs.Machine.{Schedule, accepted_in}
use Rattle.esr_core.proofs.machine.Machine.current.Goals as goal

pub returns-clause-value : goal.returns-clause-value
returns-clause-value g c =
    let at = c.args.x.0 in let within = subst (λ (h : Schedule). at < length h.opening) (sym c.self.view_is) c.requires in
    to_z-of_z w64 c.read.result (record { sfits = c.read.type_inv })
    ∙ (c.read.ensures.value ∙ (c.self.invariant.0.current at within ∙ ap (λ (h : Schedule). current_value h.opening (accepted_in h) at) c.self.view_is))
