use Rattle.std.proofs.Common.{◌≡◌, ◌<◌, ◌∙◌, sym, ap, None, length, rules, FitsSigned, w64, to_z, of_z}
use Rattle.std.proofs.lemmas.Int.{to_z-of_z}
use Rattle.esr_core.specs.Types.{Read, Value}
use Rattle.esr_history.specs.Imports.{imported}
use Rattle.esr_history.specs.Machine.{refusal}
use Rattle.esr_core.specs.States.{charges_for}
use Rattle.esr_core.proofs.Answered.{accepted_state}
use Rattle.esr_core.proofs.Dues.{read_imports}
use Rattle.esr_core.proofs.Reasons.{read_query}
use Rattle.esr_core.proofs.state.State.read_with_charge.Goals as goal

pub returns-clause-answers : goal.returns-clause-answers
returns-clause-answers c = λ d h rep by is.
    let s = c.args.self.now in
    let free : refusal d h (Read c.args.q c.args.x) ≡ None = sym (c.in_default.ensures d h c.args.x rep is ∙ read_query d h s.items s.transactions.items s.locks.locks s.ledgers rep c.args.q c.args.x by.0 by.1 by.2) in
    let inside : c.args.x.0 < length h.opening = rw (← rep.count) c.requires.item in
    let fits : FitsSigned w64 c.read-current.result = search rules in
    accepted_state d h (Read c.args.q c.args.x) (Value (to_z w64 (of_z w64 c.read-current.result))) c.read_as_charged.new.self free
    (ap Value (to_z-of_z w64 c.read-current.result fits ∙ (c.read-current.ensures.value ∙ rep.current c.args.x.0 inside)))
    (c.in_ok-read_as_charged.ensures.represents d h rep is free)

pub returns-clause-charged : goal.returns-clause-charged
returns-clause-charged c = λ d h rep by is ok t.
    let s = c.args.self.now in
    ap (λ cs. imported cs t) (c.in_ok-collect_charge.ensures ∙ ap (charges_for c.args.q) is.2) ∙ read_imports d h s.items s.transactions.items s.locks.locks s.ledgers rep c.args.q c.args.x by.0 c.requires.item t
