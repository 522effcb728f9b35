use Rattle.std.proofs.Common.{◌≡◌, ℕ, Bool, List, Option, Some, IfSome, length, subst}
use Rattle.esr_stream.specs.Passes.{HasStates, IsPassInvariant, KeepsEnough, KeepsInvariant, unowed_at}
use Rattle.esr_stream.specs.Query.{cost_in}
use Rattle.esr_stream.specs.declared.rounds.MarkedPrefix.{MarkedPrefix}
use Rattle.esr_stream.proofs.PassLaws.{stops_enough}
use Rattle.esr_stream.proofs.rounds.pass_with_stops.Goals as goal

-- a fact about what is found
of_some : (P : MarkedPrefix → Type 0) (o : Option MarkedPrefix) (x : MarkedPrefix) → o ≡ Some x → IfSome o P → P x
of_some P o x is fact = subst (λ o. IfSome o P) is fact

pub returns-clause-pass_invariant : goal.returns-clause-pass_invariant
returns-clause-pass_invariant g c = λ worth seeds p.
    let a = c.args.query.now in
    let h = a.schedule in
    let n = length h.opening in
    let C = cost_in g.M.Metric.distance_by a in
    let i1 = of_some (λ s. KeepsInvariant n C h a.query c.args.from s.len c.args.marks.now c.args.states.now c.pass_to.new.marks c.pass_to.new.states) _ _ c.in-Some.is c.in_ok-found_first.ensures.pass_invariant in
    let i2 = of_some (λ s. KeepsInvariant n C h a.query c.in-Some.first_stop.len s.len c.pass_to.new.marks c.pass_to.new.states c.pass_to-2.new.marks c.pass_to-2.new.states) _ _ c.in-Some-found_second.is c.in_ok-found_second.ensures.pass_invariant in
    let i3 = of_some (λ s. KeepsInvariant n C h a.query c.in-Some-found_second.second_stop.len s.len c.pass_to-2.new.marks c.pass_to-2.new.states c.pass_to-3.new.marks c.pass_to-3.new.states) _ _ c.in-Some-found_end.is c.in_ok-found_end.ensures.pass_invariant in
    i3 worth seeds (i2 worth seeds (i1 worth seeds p))

pub returns-clause-enough : goal.returns-clause-enough
returns-clause-enough g c =
    let a = c.args.query.now in
    let h = a.schedule in
    let n = length h.opening in
    let C = cost_in g.M.Metric.distance_by a in
    let first = c.in-Some.first_stop in
    let second = c.in-Some-found_second.second_stop in
    stops_enough h a.query C c.args.from c.args.marks.now c.pass_to.new.marks c.pass_to-2.new.marks c.args.states.now c.pass_to.new.states c.pass_to-2.new.states c.pass_to-3.new.states first second c.in-Some-found_end.end
    (of_some (λ s. (x : ℕ) → unowed_at s.states.items x ≡ unowed_at c.pass_to.new.states x) _ _ c.in-Some.is c.in_ok-found_first.ensures.same_amounts)
    (of_some (λ s. (x : ℕ) → unowed_at s.states.items x ≡ unowed_at c.pass_to-2.new.states x) _ _ c.in-Some-found_second.is c.in_ok-found_second.ensures.same_amounts)
    (of_some (λ s. (x : ℕ) → unowed_at s.states.items x ≡ unowed_at c.pass_to-3.new.states x) _ _ c.in-Some-found_end.is c.in_ok-found_end.ensures.same_amounts)
    (of_some (λ s. KeepsInvariant n C h a.query c.args.from s.len c.args.marks.now c.args.states.now c.pass_to.new.marks c.pass_to.new.states) _ _ c.in-Some.is c.in_ok-found_first.ensures.pass_invariant)
    (of_some (λ s. KeepsInvariant n C h a.query first.len s.len c.pass_to.new.marks c.pass_to.new.states c.pass_to-2.new.marks c.pass_to-2.new.states) _ _ c.in-Some-found_second.is c.in_ok-found_second.ensures.pass_invariant)
    (of_some (λ s. KeepsEnough n C h a.query first.len s.len c.pass_to.new.marks c.pass_to.new.states c.pass_to-2.new.states) _ _ c.in-Some-found_second.is c.in_ok-found_second.ensures.enough)
    (of_some (λ s. KeepsEnough n C h a.query second.len s.len c.pass_to-2.new.marks c.pass_to-2.new.states c.pass_to-3.new.states) _ _ c.in-Some-found_end.is c.in_ok-found_end.ensures.enough)

pub returns-clause-stops : goal.returns-clause-stops
returns-clause-stops g c = λ worth seeds p.
    let a = c.args.query.now in
    let h = a.schedule in
    let n = length h.opening in
    let C = cost_in g.M.Metric.distance_by a in
    let first = c.in-Some.first_stop in
    let i1 = of_some (λ s. KeepsInvariant n C h a.query c.args.from s.len c.args.marks.now c.args.states.now c.pass_to.new.marks c.pass_to.new.states) _ _ c.in-Some.is c.in_ok-found_first.ensures.pass_invariant in
    let p1 = i1 worth seeds p in (
      of_some (λ s. (w : ℕ) (ss : List Bool) → IsPassInvariant n C h a.query w c.args.from ss c.args.marks.now c.args.states.now → HasStates C h a.query s) _ _ c.in-Some.is c.in_ok-found_first.ensures.stop worth seeds p,
      of_some (λ s. (w : ℕ) (ss : List Bool) → IsPassInvariant n C h a.query w first.len ss c.pass_to.new.marks c.pass_to.new.states → HasStates C h a.query s) _ _ c.in-Some-found_second.is c.in_ok-found_second.ensures.stop worth seeds p1,
    )
