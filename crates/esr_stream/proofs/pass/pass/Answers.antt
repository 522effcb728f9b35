use Rattle.std.proofs.Common.{◌≡◌, ◌<◌, ◌∙◌, subst, sym, length, arith, length-set}
use Rattle.std.proofs.lemmas.List.Elements.{recursion_from_All}
use Rattle.esr_history.specs.Queries.{updates_committed_before}
use Rattle.esr_order.specs.declared.accesses.Access.{Access}
use Rattle.esr_stream.specs.Passes.{AreEnough, IsPassInvariant, IsUpdateApplied, read_amount, unowed_at}
use Rattle.esr_stream.specs.Query.{cost_in}
use Rattle.esr_stream.proofs.PassLaws.{passed_more, enough_more, stay_more}
use Rattle.esr_stream.proofs.pass.pass.Goals as goal

pub loop-i-preserved : goal.loop-i-preserved
loop-i-preserved g c =
    let h = c.args.query.now.schedule in
    let d = g.M.Metric.distance_by in
    let q = c.args.query.now.query in
    let legal = c.history-invariant.ensures.legal in
    let i = c.loop-i.i in
    let C = cost_in g.M.Metric.distance_by c.args.query.now in
    let row = c.in_ok-row.row.now in
    let inside : i < length (updates_committed_before h q) = omega (arith, c.loop-i-test.true, c.requires.to) in
    let sized : i < length c.loop-i.marks = omega (arith, inside, c.loop-i.invariant.marks, c.requires.marks) in
    let items = recursion_from_All (λ (a : Access). a.item.0 < length h.opening) row c.in_ok-row.ensures.items in
    let marked = c.is_forced-marked.result in
    let kept = c.steps-keeps.ensures.row c.if-not-keeps.false in
    let proposed = read_amount c.amounts_from-own.result.now in
    let put : IsUpdateApplied C marked proposed row c.loop-i.states c.steps-keeps.new.states kept.0 kept.1 = kept.2 in
    record {
      len = c.steps-keeps.ensures.len ∙ c.loop-i.invariant.len;
      marks = length-set c.loop-i.marks i marked ∙ c.loop-i.invariant.marks;
      stay = stay_more c.args.marks.now c.loop-i.marks i marked sized c.is_forced-marked.ensures.stays c.loop-i.invariant.stay;
      passed = λ worth seeds p.
          passed_more d h q legal C worth i seeds c.loop-i.marks marked proposed row c.loop-i.states c.steps-keeps.new.states kept.0 kept.1 (c.loop-i.invariant.passed worth seeds p) inside sized c.in_ok-row.ensures.accesses items
          c.is_forced-marked.ensures.reason
          put kept.3;
      enough = λ worth seeds p e.
          c.loop-i.invariant.enough worth seeds p
          (enough_more d h q legal C worth i seeds c.loop-i.marks marked proposed row c.loop-i.states c.steps-keeps.new.states kept.0 kept.1 (c.loop-i.invariant.passed worth seeds p) inside sized c.in_ok-row.ensures.accesses items
          c.is_forced-marked.ensures.reason
          put kept.3 e);
    }

pub returns-clause-pass_invariant : goal.returns-clause-pass_invariant
returns-clause-pass_invariant g c = λ worth seeds p.
    let h = c.args.query.now.schedule in
    let C = cost_in g.M.Metric.distance_by c.args.query.now in
    let e : c.loop-i.i ≡ c.args.to = omega (arith, c.loop-i-test.false, c.loop-i.auto.i-end, c.requires.from) in
    subst (λ m. IsPassInvariant (length h.opening) C h c.args.query.now.query worth m seeds c.loop-i.marks c.loop-i.states) e (c.loop-i.invariant.passed worth seeds p)

pub returns-clause-enough : goal.returns-clause-enough
returns-clause-enough g c = λ worth seeds p enough.
    let h = c.args.query.now.schedule in
    let C = cost_in g.M.Metric.distance_by c.args.query.now in
    let e : c.loop-i.i ≡ c.args.to = omega (arith, c.loop-i-test.false, c.loop-i.auto.i-end, c.requires.from) in
    c.loop-i.invariant.enough worth seeds p (subst (λ m. AreEnough (length h.opening) C h c.args.query.now.query m (unowed_at c.loop-i.states)) (sym e) enough)
