use Rattle.std.proofs.Common.{◌≡◌, ◌<◌, ◌∙◌, ℕ, ℤ, List, refl, sym, ap, arith, length}
use Rattle.esr_history.specs.Serial.{state}
use Rattle.esr_history.specs.Queries.{updates_committed_before, members}
use Rattle.esr_bound.specs.Amounts.{among_marked, cost_by, mark_at, total}
use Rattle.esr_stream.specs.Passes.{ItemState, costs_sum, state_at}
use Rattle.esr_stream.specs.Query.{cost_in}
use Rattle.esr_stream.proofs.CostLaws.{total_same}
use Rattle.esr_stream.proofs.StepLaws.{total_states}
use Rattle.esr_stream.proofs.MemberLaws.{cost_more, cost_start, at_end}
use Rattle.esr_stream.proofs.least.cost_of.Goals as goal

pub loop-i-init : goal.loop-i-init
loop-i-init g c =
    let h = c.args.query.now.schedule in
    let C = cost_in g.M.Metric.distance_by c.args.query.now in
    record {
      len = c.requires.states.len;
      costs = λ x l. c.requires.states.cost x l ∙ cost_start g.M.Metric.distance_by h c.args.query.now.query c.history-invariant.ensures.legal c.args.marks.now C c.args.from x c.requires.prefix_marked;
    }

pub loop-i-preserved : goal.loop-i-preserved
loop-i-preserved g c =
    let h = c.args.query.now.schedule in
    let d = g.M.Metric.distance_by in
    let q = c.args.query.now.query in
    let marks = c.args.marks.now in
    let legal = c.history-invariant.ensures.legal in
    let i = c.loop-i.i in
    let C = cost_in g.M.Metric.distance_by c.args.query.now in
    let row = c.in_ok-row.row.now in
    let inside : i < length (updates_committed_before h q) = omega (arith, c.loop-i-test.true, c.update_count-i-end.ensures) in
    let new : List ItemState = c.fits_if-fit.new.states in
    record {
      len = c.fits_if-fit.ensures.len ∙ c.loop-i.invariant.len;
      costs = λ x l.
          cost_more d h q legal marks C i x c.loop-i.states new row (mark_at marks i) inside c.in_ok-row.ensures.accesses refl (omega (arith, l, c.loop-i.invariant.len))
          (c.fits_if-fit.ensures.member c.if-not-fit.false)
          c.fits_if-fit.ensures.other
          (c.loop-i.invariant.costs x l);
    }

pub returns : goal.returns
returns g c =
    let h = c.args.query.now.schedule in
    let d = g.M.Metric.distance_by in
    let q = c.args.query.now.query in
    let n : ℕ = length h.opening in
    let marks = c.args.marks.now in
    let legal = c.history-invariant.ensures.legal in
    let C : ℕ → ℤ → ℕ = cost_in g.M.Metric.distance_by c.args.query.now in
    let states : List ItemState = c.loop-i.states in
    let S = among_marked (updates_committed_before h q) marks in
    let cost : ℕ → ℕ = λ x. (state_at states x).cost in
    let same : total n cost ≡ cost_by n C h q S = total_same n cost (λ x. C x (state h (members h q S) x)) (λ x l.
    c.loop-i.invariant.costs x l ∙ ap (C x) (at_end d h q legal marks c.loop-i.i x (omega (arith, c.update_count-i-end.ensures, c.loop-i-test.false, c.loop-i.auto.i-end, c.requires.from)))) in
    let sum : total n cost ≡ costs_sum states = ap (λ m. total m cost) (sym c.loop-i.invariant.len) ∙ total_states (λ (i : ItemState). i.cost) states in
    c.in-Some.ensures ∙ sym sum ∙ same
