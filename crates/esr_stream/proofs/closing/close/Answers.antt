use Rattle.std.proofs.Common.{◌≡◌, ◌<◌, ◌≤◌, ◌-◌, inl, inr, suc, refl, ◌∙◌, length, arith}
use Rattle.std.proofs.lemmas.Bool.{cases_lt}
use Rattle.esr_history.specs.Queries.{updates_committed_before, must}
use Rattle.esr_stream.specs.Closing.{seen_later}
use Rattle.esr_stream.proofs.ClosingLaws.{closed_start, closed_more}
use Rattle.esr_stream.proofs.MarkLaws.{closed_set}
use Rattle.esr_stream.proofs.PassLaws.{mark_other}
use Rattle.esr_stream.proofs.closing.close.Goals as goal

pub loop-i-init : goal.loop-i-init
loop-i-init g c =
    let h = c.args.query.now.schedule in
    let q = c.args.query.now.query in
    record {
      read = c.in_ok-later.ensures.read_len ∙ c.items.ensures;
      written = c.in_ok-later.ensures.written_len ∙ c.items.ensures;
      closed = closed_start h q c.args.to c.args.marks.now (seen_later c.in_ok-later.later) c.requires.none_marked c.in_ok-later.ensures.read c.in_ok-later.ensures.written;
      none_marked = c.requires.none_marked;
    }

pub loop-i-preserved : goal.loop-i-preserved
loop-i-preserved g c =
    let h = c.args.query.now.schedule in
    let d = g.M.Metric.distance_by in
    let q = c.args.query.now.query in
    let legal = c.history-invariant.ensures.legal in
    let i = c.loop-i.i - 1 in
    let next : c.loop-i.i ≡ suc i = omega (arith, c.loop-i-test.true) in
    let inside : i < length (updates_committed_before h q) = omega (arith, c.loop-i-test.true, c.loop-i.auto.i, c.requires.to) in
    let sized : i < length c.loop-i.marks = omega (arith, inside, c.loop-i.invariant.closed.len, c.requires.marks) in
    record {
      read = c.add_if.ensures.read_len ∙ c.loop-i.invariant.read;
      written = c.add_if.ensures.written_len ∙ c.loop-i.invariant.written;
      closed = closed_more d h q legal c.loop-i.i i next inside c.args.marks.now c.loop-i.marks sized (seen_later c.loop-i.later) (seen_later c.add_if.new.self) c.loop-i.invariant.closed
          c.in_ok-row.row.now c.in_ok-row.ensures.accesses c.is_member-is_member.result c.is_member-is_member.ensures c.add_if.ensures.member c.add_if.ensures.other;
      none_marked = λ j l. mark_other c.loop-i.marks i j c.is_member-is_member.result (λ e. omega (arith, l, e, next, c.loop-i.auto.i)) ∙ c.loop-i.invariant.none_marked j l;
    }

pub returns-clause-forced : goal.returns-clause-forced
returns-clause-forced g c = λ n worth C forced S closed low. c.loop-i.invariant.closed.spread S closed (forced S closed low)

pub returns-clause-closed : goal.returns-clause-closed
returns-clause-closed g c = λ musts firsts.
    let h = c.args.query.now.schedule in
    let q = c.args.query.now.query in
    let z : c.loop-i.i ≤ c.args.from = omega (arith, c.loop-i-test.false) in
    closed_set g.M.Metric.distance_by h q c.history-invariant.ensures.legal c.loop-i.marks (length (must h q)) refl
    (λ i l. c.loop-i.invariant.closed.stay i (musts i l))
    (λ i j l m b t. elim (cases_lt i c.args.from) [
      | inl low ↦ c.loop-i.invariant.closed.stay i (firsts i low)
      | inr high ↦ c.loop-i.invariant.closed.down i j (omega (arith, z, high)) l m b t
    ])
