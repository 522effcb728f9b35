use Rattle.std.proofs.Common.{◌≡◌, ◌∙◌, ◌≤◌, ℕ, Bool, List, Option, Some, IfSome, subst, arith, length}
use Rattle.esr_history.specs.Queries.{updates_committed_before}
use Rattle.esr_stream.specs.Passes.{AreEnough, HasStates, IsEnough, IsPassInvariant, KeepsInvariant, NoneMarkedFrom, unowed_at}
use Rattle.esr_stream.specs.Query.{cost_in}
use Rattle.esr_stream.specs.declared.rounds.Stops.{Stops}
use Rattle.esr_stream.proofs.PassLaws.{last_within, passed_from_copy, stop_shows}
use Rattle.esr_stream.proofs.rounds.round.Goals as goal

-- a fact about what is found
of_some : (P : Stops → Type 0) (o : Option Stops) (x : Stops) → o ≡ Some x → IfSome o P → P x
of_some P o x is fact = subst (λ o. IfSome o P) is fact

pub close-requires-clause-none_marked : goal.close-requires-clause-none_marked
close-requires-clause-none_marked g c = λ j l.
    let a = c.args.query.now in
    let h = a.schedule in
    let n = length h.opening in
    let C = cost_in g.M.Metric.distance_by a in
    let m = c.args.marks.now in
    let stops : Stops = c.in-Some.stops in
    let inside : c.args.from ≤ length (updates_committed_before h a.query) = omega (arith, c.requires.from_le_first, c.requires.first_le_second, c.requires.second_le_len) in
    let passed = of_some (λ t. KeepsInvariant n C h a.query c.args.from t.end.len m c.deref_mut.result.now c.pass_with_stops.new.marks c.pass_with_stops.new.states) _ _ c.in-Some.is c.in_ok-found.ensures.pass_invariant in
    let p = passed 0 m (passed_from_copy g.M.Metric.distance_by h a.query c.history-invariant.ensures.legal C c.args.from 0 m c.args.start_states.now c.deref_mut.result.now (c.deref_mut.ensures.value ∙ c.in_ok-states.ensures) inside c.requires.prefix_marked (omega (arith, c.requires.loans_within_amounts)) (c.requires.start_states m c.requires.prefix_marked)) in
    let last = last_within h a.query C stops.first stops.second stops.end c.args.last_end.now
    (of_some (λ t. t.first.len ≤ t.second.len) _ _ c.in-Some.is c.in_ok-found.ensures.second) (of_some (λ t. t.second.len ≤ t.end.len) _ _ c.in-Some.is c.in_ok-found.ensures.end) (c.has_stop.ensures c.if-not-has_stop.false) in
    p.later j l ∙ c.requires.none_marked j (omega (arith, l, last))

pub returns-clause-forced : goal.returns-clause-forced
returns-clause-forced g c = λ worth low prior enough.
    let a = c.args.query.now in
    let h = a.schedule in
    let q = a.query in
    let n = length h.opening in
    let C = cost_in g.M.Metric.distance_by a in
    let m = c.args.marks.now in
    let s0 = c.deref_mut.result.now in
    let m1 = c.pass_with_stops.new.marks in
    let s1 = c.pass_with_stops.new.states in
    let stops : Stops = c.in-Some.stops in
    let inside : c.args.from ≤ length (updates_committed_before h q) = omega (arith, c.requires.from_le_first, c.requires.first_le_second, c.requires.second_le_len) in
    let started = passed_from_copy g.M.Metric.distance_by h q c.history-invariant.ensures.legal C c.args.from worth m c.args.start_states.now s0 (c.deref_mut.ensures.value ∙ c.in_ok-states.ensures) inside c.requires.prefix_marked low (c.requires.start_states m c.requires.prefix_marked) in
    let passed = of_some (λ t. KeepsInvariant n C h q c.args.from t.end.len m s0 m1 s1) _ _ c.in-Some.is c.in_ok-found.ensures.pass_invariant in
    let at_end = passed worth m started in
    let same = c.has_stop.ensures c.if-not-has_stop.false in
    let last = last_within h q C stops.first stops.second stops.end c.args.last_end.now
    (of_some (λ t. t.first.len ≤ t.second.len) _ _ c.in-Some.is c.in_ok-found.ensures.second) (of_some (λ t. t.second.len ≤ t.end.len) _ _ c.in-Some.is c.in_ok-found.ensures.end) same in
    let none : NoneMarkedFrom stops.end.len m1 = λ j l. at_end.later j l ∙ c.requires.none_marked j (omega (arith, l, last)) in
    let all_enough = of_some (λ t. (w : ℕ) (ss : List Bool) → IsPassInvariant n C h q w c.args.from ss m s0 → IsEnough n C h q t.end → AreEnough n C h q t.end.len (unowed_at s1) × IsEnough n C h q t.first × IsEnough n C h q t.second) _ _ c.in-Some.is c.in_ok-found.ensures.enough worth m started enough in
    let shown = stop_shows h q C worth stops.end.len m m1 s1 c.args.last_end.now stops.first stops.second none at_end all_enough same prior in
    (c.in_ok-has_added.ensures.forced n worth C shown.0, shown.1)

pub returns-clause-stops : goal.returns-clause-stops
returns-clause-stops g c =
    let a = c.args.query.now in
    let h = a.schedule in
    let q = a.query in
    let n = length h.opening in
    let C = cost_in g.M.Metric.distance_by a in
    let m = c.args.marks.now in
    let s0 = c.deref_mut.result.now in
    let inside : c.args.from ≤ length (updates_committed_before h q) = omega (arith, c.requires.from_le_first, c.requires.first_le_second, c.requires.second_le_len) in
    let started = passed_from_copy g.M.Metric.distance_by h q c.history-invariant.ensures.legal C c.args.from 0 m c.args.start_states.now s0 (c.deref_mut.ensures.value ∙ c.in_ok-states.ensures) inside c.requires.prefix_marked (omega (arith, c.requires.loans_within_amounts)) (c.requires.start_states m c.requires.prefix_marked) in
    of_some (λ t. (w : ℕ) (ss : List Bool) → IsPassInvariant n C h q w c.args.from ss m s0 → HasStates C h q t.first × HasStates C h q t.second) _ _ c.in-Some.is c.in_ok-found.ensures.stops 0 m started
