-- Executing an event yields the state of the longer history.
use Rattle.std.proofs.Common.{◌≡◌, [], ◌∷◌, ◌++◌, ◌∙◌, ap, None, Some, arith}
use Rattle.esr_core.specs.Types.{Event, Reply, Refused, Refusal}
use Rattle.esr_history.specs.Events.{is_refusal}
use Rattle.esr_history.specs.Machine.{DistanceFunction, Schedule, accepted_in, extended, refusal, acceptance, reply_to}
use Rattle.esr_history.proofs.LegalWellFormed.{done-refused, done-accepted, acceptance_accepts}
use Rattle.esr_core.specs.declared.state.State.{State}
use Rattle.esr_core.specs.States.{IsStateOf, IsStateAfter}

-- a refusal leaves the state
pub refused_state : (d : DistanceFunction) (h : Schedule) (e : Event) (why : Refusal) (s : State) → Some why ≡ refusal d h e → IsStateOf d h s → (Refused why ≡ reply_to d h e) × IsStateOf d (extended h e (Refused why)) s
refused_state d h e why s is rep = grind (arith, done-refused h e why)

-- an event that nothing refuses adds itself
pub accepted_state : (d : DistanceFunction) (h : Schedule) (e : Event) (r : Reply) (s : State) → refusal d h e ≡ None → r ≡ acceptance h e → IsStateAfter d h (accepted_in h ++ e ∷ []) s → (r ≡ reply_to d h e) × IsStateOf d (extended h e r) s
accepted_state d h e r s none is rep =
    grind (arith, done-accepted h e r (ap is_refusal is ∙ acceptance_accepts h e), acceptance_accepts h e)
