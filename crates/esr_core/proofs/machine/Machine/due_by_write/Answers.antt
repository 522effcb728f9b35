use Rattle.std.proofs.Common.{◌≡◌, ◌<◌, ◌∙◌, ◌∷◌, [], List, ℕ, length, ap, arith, refl, sym, subst, true, w64}
use Rattle.std.proofs.lemmas.Bool.{eqb-true}
use Rattle.std.proofs.lemmas.Int.{to_z-of_z}
use Rattle.esr_core.specs.Types.{TxnId, Write}
use Rattle.esr_history.specs.Events.{is_update}
use Rattle.esr_history.specs.Machine.{Schedule, accepted_in, due_in}
use Rattle.esr_core.specs.States.{charges_by}
use Rattle.esr_core.proofs.Writes.{due_is}
use Rattle.esr_core.proofs.machine.Machine.due_by_write.Given.{Over}
use Rattle.esr_core.proofs.machine.Machine.due_by_write.Goals as goal
use Rattle.esr_core.proofs.machine.Machine.due_by_write.Goals.{After-is_empty}

no_elements : (cs : List (TxnId × ℕ)) → length cs ≡ 0 → cs ≡ []
no_elements [] is = refl
no_elements (c ∷ cs) is = absurd (omega (arith, is))

due : (g : Over) (c : After-is_empty g) → due_in g.M.Metric.distance_by c.args.self.now (Write c.args.u c.args.x c.args.v) ≡ charges_by c.args.u.0 c.charges_of_write.new.charges.items
due g c =
    let d = g.M.Metric.distance_by in let h = c.self.inside.history.schedule in let s = c.self.inside.state in let rep = c.self.invariant.0 in
    let inside : c.args.x.0 < length s.items = rw (rep.count, c.self.view_is) c.requires.item in
    let update : is_update (accepted_in h) c.args.u.0 ≡ true = rw c.self.view_is (sym c.is_update.ensures ∙ c.if-not-is_update.false) in
    subst (λ (k : Schedule). due_in d k (Write c.args.u c.args.x c.args.v) ≡ charges_by c.args.u.0 c.charges_of_write.new.charges.items) c.self.view_is
    (due_is d h s.items s.transactions.items s.locks.locks s.ledgers rep c.args.u c.args.x c.args.v inside update
    ∙ ap (charges_by c.args.u.0) (sym (c.in_ok-charges_of_write.ensures ∙ rw (c.metric.ensures, to_z-of_z w64 c.args.v c.ranges.v) refl)))

pub returns-then-is_empty-clause-charges : goal.returns-then-is_empty-clause-charges
returns-then-is_empty-clause-charges g c =
    let none : length c.charges_of_write.new.charges.items ≡ 0 = grind (arith, eqb-true) in
    due g (goal.at.returns-then-is_empty-clause-charges g c).After-is_empty ∙ ap (charges_by c.args.u.0) (no_elements c.charges_of_write.new.charges.items none)

pub returns-else-is_empty-clause-charges : goal.returns-else-is_empty-clause-charges
returns-else-is_empty-clause-charges g c = due g (goal.at.returns-else-is_empty-clause-charges g c).After-is_empty
