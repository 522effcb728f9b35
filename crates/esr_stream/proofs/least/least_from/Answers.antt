use Rattle.std.proofs.Common.{◌≡◌, ◌*◌, ◌∙◌, ℕ, ℤ, List, sym, ap, subst, arith, length, IfSome}
use Rattle.esr_history.specs.Queries.{updates_committed_before, cost}
use Rattle.esr_order.proofs.Least.{law_of_listed_sets}
use Rattle.esr_bound.specs.Amounts.{among_marked, cost_by}
use Rattle.esr_bound.proofs.SmallestSet.{law_of_set}
use Rattle.esr_stream.specs.Passes.{AreStates, ItemState}
use Rattle.esr_stream.specs.Query.{cost_in}
use Rattle.esr_stream.proofs.least.least_from.Goals as goal

pub cost_of-requires-clause-states : goal.cost_of-requires-clause-states
cost_of-requires-clause-states g c =
    let h = c.args.query.now.schedule in
    let C : ℕ → ℤ → ℕ = cost_in g.M.Metric.distance_by c.args.query.now in
    subst (λ (l : List ItemState). AreStates C h c.args.query.now.query c.args.from c.args.marks.now l) (sym (c.deref_mut.ensures.value ∙ c.in_ok-states.ensures)) (c.requires.start_states c.args.marks.now c.requires.prefix_marked)

pub returns : goal.returns
returns g c =
    let h = c.args.query.now.schedule in
    let d = g.M.Metric.distance_by in
    let q = c.args.query.now.query in
    let n : ℕ = length h.opening in
    let marks = c.args.marks.now in
    let S = among_marked (updates_committed_before h q) marks in
    let C : ℕ → ℤ → ℕ = cost_in g.M.Metric.distance_by c.args.query.now in
    let equal : c.in-Some.cost ≡ c.args.worth = omega (arith, c.if-cost-worth.false) in
    let is : cost_by n C h q S ≡ c.args.worth = sym (subst (λ o. IfSome o (λ (s : ℕ). s ≡ cost_by n C h q S)) c.in-Some.is c.in_ok-found.ensures) ∙ equal in
    let found = law_of_set d h q n C (n * 17592186044416) c.args.worth marks
    c.history-invariant.ensures.costs c.requires.forced_and_closed.bound c.requires.forced_and_closed.forced c.requires.forced_and_closed.closed is in
    let listed = law_of_listed_sets d h q S found.0 in
    let scaled : c.items.result * 17592186044416 ≡ n * 17592186044416 = ap (λ m. m * 17592186044416) c.items.ensures in
    let distance : c.in-Some-without_offsets.distance ≡ cost d h q S = omega (arith, c.in-Some-without_offsets.ensures, scaled, found.1) in
    (distance ∙ listed.1, c.in_ok-before.ensures ∙ listed.0)
