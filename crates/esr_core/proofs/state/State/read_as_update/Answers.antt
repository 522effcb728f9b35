use Rattle.std.proofs.Common.{◌≡◌, ◌<◌, ◌∙◌, sym, ap, None, Some, length, true, ◌∷◌, [], ◌++◌, rules, FitsSigned, w64, to_z, of_z, option_map}
use Rattle.std.proofs.lemmas.Int.{to_z-of_z}
use Rattle.esr_core.specs.Types.{Read, Value}
use Rattle.esr_history.specs.Events.{is_active, is_update}
use Rattle.esr_history.specs.Machine.{accepted_in, refusal}
use Rattle.esr_history.proofs.WellFormed.{active_parts}
use Rattle.esr_history.proofs.LegalWellFormed.{follows, update_from}
use Rattle.esr_core.specs.declared.state.State.{State}
use Rattle.esr_core.specs.States.{IsStateAfter}
use Rattle.esr_core.proofs.Accepted.{read_active}
use Rattle.esr_core.proofs.Answered.{accepted_state, refused_state}
use Rattle.esr_core.proofs.Reasons.{read_update}
use Rattle.esr_core.proofs.Representing.{represents-read}
use Rattle.esr_core.proofs.state.State.read_as_update.Goals as goal

pub returns-in-Some-clause-answers : goal.returns-in-Some-clause-answers
returns-in-Some-clause-answers c = λ d h rep by.
    let s = c.args.self.now in
    let why : Some c.in-Some.why ≡ refusal d h (Read c.args.t c.args.x) = c.in-Some.ensures ∙ read_update d h s.items s.transactions.items s.locks.locks s.ledgers rep c.args.t c.args.x (option_map (λ u. u.0) c.may_read_update.result) c.requires.item c.may_read_update.ensures by.0 by.1 by.2 in
    refused_state d h (Read c.args.t c.args.x) c.in-Some.why s why rep

pub returns-clause-answers : goal.returns-clause-answers
returns-clause-answers c = λ d h rep by.
    let s = c.args.self.now in
    let new : State = record { items = s.items; transactions = s.transactions; locks = c.try_add_read_update.new.self; ledgers = s.ledgers } in
    let free : refusal d h (Read c.args.t c.args.x) ≡ None = sym (c.in_default.ensures ∙ read_update d h s.items s.transactions.items s.locks.locks s.ledgers rep c.args.t c.args.x (option_map (λ u. u.0) c.may_read_update.result) c.requires.item c.may_read_update.ensures by.0 by.1 by.2) in
    let act : is_active (accepted_in h) c.args.t.0 ≡ true = read_active d h c.args.t c.args.x free in
    let update : is_update (accepted_in h) c.args.t.0 ≡ true = update_from (accepted_in h) c.args.t.0 (active_parts (accepted_in h) c.args.t.0 act).0 by.0 in
    let inside : c.args.x.0 < length h.opening = rw (← rep.count) c.requires.item in
    let fits : FitsSigned w64 c.read-value.result = search rules in
    let after : IsStateAfter d h (accepted_in h ++ Read c.args.t c.args.x ∷ []) new =
    rw (c.in_ok-try_add_read_update.ensures.ok) (represents-read (d h.weights) h.opening (accepted_in h) s.items s.transactions.items s.locks.locks s.ledgers rep c.args.t c.args.x update act (follows d h rep.orderly (Read c.args.t c.args.x) free) inside) in
    accepted_state d h (Read c.args.t c.args.x) (Value (to_z w64 (of_z w64 c.read-value.result))) new free
    (ap Value (to_z-of_z w64 c.read-value.result fits ∙ (c.read-value.ensures.value ∙ rep.current c.args.x.0 inside))) after
