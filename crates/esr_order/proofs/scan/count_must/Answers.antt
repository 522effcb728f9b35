use Rattle.std.proofs.Common.{◌≡◌, ◌∙◌, ap, sym, take, Some}
use Rattle.esr_history.specs.BackLinks.{facts_of}
use Rattle.esr_history.specs.Queries.{before_begin}
use Rattle.esr_order.proofs.Commits.{begin_some, begun_some, must_counted, not_strict, strict_none, strict_some}
use Rattle.esr_order.proofs.Spans.{before_begin_is}
use Rattle.esr_order.proofs.scan.count_must.Goals as goal

pub returns-in_default : goal.returns-in_default
returns-in_default g c =
    let h = c.args.history.now.schedule in
    not_strict h c.args.q.0 (strict_none h.entries c.args.q.0 (sym c.in_default.is ∙ c.facts.ensures))

pub returns-then-facts : goal.returns-then-facts
returns-then-facts g c =
    let h = c.args.history.now.schedule in
    let q = c.args.q.0 in
    let f = c.in-Some.facts in
    let legal = c.log-invariant.ensures.legal in
    let some : Some f ≡ facts_of h.entries q = sym c.in-Some.is ∙ c.facts.ensures in
    let before : take f.begin h.entries ≡ before_begin h q =
    ap (λ n. take n h.entries) (begin_some h.entries q f some) ∙ before_begin_is g.M.Metric.distance_by h legal q (begun_some h.entries q f some) in
    c.count_before.ensures
    ∙ must_counted g.M.Metric.distance_by h legal q f.begin before c.args.updates.now c.requires (sym (strict_some h.entries q f some) ∙ c.if-facts.true)

pub returns-else-facts : goal.returns-else-facts
returns-else-facts g c =
    let h = c.args.history.now.schedule in
    let f = c.in-Some.facts in
    let some : Some f ≡ facts_of h.entries c.args.q.0 = sym c.in-Some.is ∙ c.facts.ensures in
    not_strict h c.args.q.0 (sym (strict_some h.entries c.args.q.0 f some) ∙ c.if-facts.false)
