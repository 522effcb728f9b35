use Rattle.std.proofs.Common.{◌≡◌, ◌<◌, ◌+◌, List, [], true, sym, ap, ◌∙◌, subst, length, arith}
use Rattle.esr_history.specs.Queries.{updates_committed_before}
use Rattle.esr_order.proofs.Early.{must_below}
use Rattle.esr_order.proofs.Lists.{written_back}
use Rattle.esr_stream.specs.Passes.{ItemState, AreStates, IsUpdateApplied, read_amount}
use Rattle.esr_stream.specs.Query.{cost_in}
use Rattle.esr_stream.proofs.PassLaws.{first_more}
use Rattle.esr_stream.proofs.pass.start.Goals as goal

pub loop-i-init : goal.loop-i-init
loop-i-init g c = record {
  len = (c.in_ok-states.ensures []).len;
  states = λ marks firsts. c.in_ok-states.ensures marks;
}

pub loop-i-preserved : goal.loop-i-preserved
loop-i-preserved g c =
    let h = c.args.query.now.schedule in
    let d = g.M.Metric.distance_by in
    let q = c.args.query.now.query in
    let legal = c.history-invariant.ensures.legal in
    let i = c.loop-i.i in
    let C = cost_in g.M.Metric.distance_by c.args.query.now in
    let row = c.in_ok-row.row.now in
    let old : List ItemState = c.loop-i.states.items in
    let new : List ItemState = c.fits-fit.new.states in
    let early : i < c.args.mandatory_count = c.loop-i-test.true in
    let inside : i < length (updates_committed_before h q) = omega (arith, early, must_below d h q legal, c.requires.mandatory_count) in
    let sized : length new ≡ length old = c.fits-fit.ensures.len ∙ ap (λ (l : List ItemState). length l) c.deref_mut.ensures.value in
    let back = written_back new old c.loop-i.states.len c.loop-i.states.ok.0 sized in
    let kept = c.fits-fit.ensures.row c.if-not-fit.false in
    let proposed = read_amount c.amounts_from-own.result.now in
    let put : IsUpdateApplied C true proposed row old new kept.0 kept.1 =
    subst (λ l. IsUpdateApplied C true proposed row l new kept.0 kept.1) c.deref_mut.ensures.value kept.2 in
    record {
      len = ap (λ (l : List ItemState). length l) back ∙ sized ∙ c.loop-i.invariant.len;
      states = λ marks firsts.
          subst (λ l. AreStates C h q (i + 1) marks l) (sym back)
          (first_more d h q legal C i marks proposed row old new kept.0 kept.1 inside (c.loop-i.invariant.states marks firsts) c.in_ok-row.ensures.accesses put (firsts i early));
    }
