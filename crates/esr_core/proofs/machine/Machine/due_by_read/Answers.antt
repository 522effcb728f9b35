use Rattle.std.proofs.Common.{◌≡◌, ◌<◌, ◌∙◌, ◌∷◌, [], length, ap, refl, sym, subst, None, Some, true}
use Rattle.esr_items.specs.Values.{versions_at}
use Rattle.esr_core.specs.Types.{Read}
use Rattle.esr_history.specs.Events.{is_query}
use Rattle.esr_history.specs.Machine.{Schedule, accepted_in, due_in}
use Rattle.esr_locks.specs.Tables.{locks_at}
use Rattle.esr_core.specs.States.{charges_by, read_charge}
use Rattle.esr_core.proofs.Reasons.{due_some, due_none}
use Rattle.esr_core.proofs.machine.Machine.due_by_read.Goals as goal

pub returns-in_ok-push-in-Some-clause-charges : goal.returns-in_ok-push-in-Some-clause-charges
returns-in_ok-push-in-Some-clause-charges g c =
    let d = g.M.Metric.distance_by in let h = c.self.inside.history.schedule in let s = c.self.inside.state in let rep = c.self.invariant.0 in
    let inside : c.args.x.0 < length s.items = rw (rep.count, c.self.view_is) c.requires in
    let query : is_query (accepted_in h) c.args.q.0 ≡ true = rw c.self.view_is (sym c.is_query.ensures ∙ c.if-not-is_query.false) in
    let is : read_charge (d h.weights c.args.x.0) (versions_at s.items c.args.x.0) (locks_at s.locks.locks c.args.x.0).writer ≡ Some (c.in-Some.u, c.in-Some.amount) = rw (← c.metric.ensures) (sym c.charge_of_read.ensures ∙ c.in-Some.is) in
    let items : c.push.new.self.items ≡ (c.args.q, c.in-Some.amount) ∷ [] = c.in_ok-push-in-Some.ensures.items ∙ rw c.clear.ensures.items refl in
    subst (λ (k : Schedule). due_in d k (Read c.args.q c.args.x) ≡ charges_by c.in-Some.u.0 c.push.new.self.items) c.self.view_is
    ((due_some d h s.items s.transactions.items s.locks.locks s.ledgers rep c.args.q c.args.x (c.in-Some.u, c.in-Some.amount) query inside is).0 ∙ ap (charges_by c.in-Some.u.0) (sym items))

pub returns-in-None-clause-charges : goal.returns-in-None-clause-charges
returns-in-None-clause-charges g c =
    let d = g.M.Metric.distance_by in let h = c.self.inside.history.schedule in let s = c.self.inside.state in let rep = c.self.invariant.0 in
    let inside : c.args.x.0 < length s.items = rw (rep.count, c.self.view_is) c.requires in
    let is : read_charge (d h.weights c.args.x.0) (versions_at s.items c.args.x.0) (locks_at s.locks.locks c.args.x.0).writer ≡ None = rw (← c.metric.ensures) (sym c.charge_of_read.ensures ∙ c.in-None.is) in
    subst (λ (k : Schedule). due_in d k (Read c.args.q c.args.x) ≡ []) c.self.view_is
    (due_none d h s.items s.transactions.items s.locks.locks s.ledgers rep c.args.q c.args.x inside is)
