use Rattle.std.proofs.Common.{◌∙◌, map, sym, ap, subst}
use Rattle.esr_base.specs.declared.numbers.TxnId.{TxnId}
use Rattle.esr_order.specs.Relevant.{AreRelevant}
use Rattle.esr_order.specs.Orders.{IsConflictOrderOn}
use Rattle.esr_order.proofs.Commits.{updates_are}
use Rattle.esr_order.proofs.RelevantFound.{IsRelevantRun, relevant_run}
use Rattle.esr_order.proofs.order.relevant_with.Goals as goal
use Rattle.esr_order.proofs.order.relevant_with.Goals.{After-deref-3}

pub count_must-first-requires : goal.count_must-first-requires
count_must-first-requires g c =
    ap (map (λ t. t.0)) c.deref.ensures.value
    ∙ updates_are c.args.history.now.schedule c.args.q.0 c.args.committed.now c.requires.list c.in_ok-updates.updates.items c.in_ok-updates.ensures

pub relevant_of-requires-clause-updates : goal.relevant_of-requires-clause-updates
relevant_of-requires-clause-updates g c =
    ap (map (λ t. t.0)) c.deref-2.ensures.value
    ∙ updates_are c.args.history.now.schedule c.args.q.0 c.args.committed.now c.requires.list c.in_ok-updates.updates.items c.in_ok-updates.ensures

run : (g : Rattle.esr_order.proofs.order.relevant_with.Given.Over) (c : After-deref-3 g) → IsRelevantRun c.args.history.now.schedule c.args.q.0 c.count_must-first.result c.in_ok-relevant.relevant.updates.items
run g c = relevant_run g.M.Metric.distance_by c.args.history.now.schedule c.args.q.0 c.log-invariant.ensures.legal c.in_ok-relevant.relevant.updates.items c.in_ok-relevant.ensures.relevant c.count_must-first.result c.count_must-first.ensures

pub among-requires-clause-once : goal.among-requires-clause-once
among-requires-clause-once g c = (run g c).once

pub among-requires-clause-count_within_max : goal.among-requires-clause-count_within_max
among-requires-clause-count_within_max g c = (run g c).count_within_max

pub among-requires-clause-keeps : goal.among-requires-clause-keeps
among-requires-clause-keeps g c = (run g c).keeps

pub among-requires-clause-first : goal.among-requires-clause-first
among-requires-clause-first g c = (run g c).first_inside

pub returns-clause-relevant : goal.returns-clause-relevant
returns-clause-relevant g c = subst (λ ts. AreRelevant c.args.history.now.schedule c.args.q.0 (map (λ (t : TxnId). t.0) ts)) (sym c.in_ok-order.ensures.commits) c.in_ok-relevant.ensures.relevant

pub returns-clause-ok : goal.returns-clause-ok
returns-clause-ok g c =
    let r : IsRelevantRun c.args.history.now.schedule c.args.q.0 c.count_must-first.result c.in_ok-relevant.relevant.updates.items =
    relevant_run g.M.Metric.distance_by c.args.history.now.schedule c.args.q.0 c.log-invariant.ensures.legal c.in_ok-relevant.relevant.updates.items c.in_ok-relevant.ensures.relevant c.count_must-first.result c.count_must-first.ensures in
    subst (λ ts. IsConflictOrderOn c.args.history.now.schedule c.args.q.0 (map (λ (t : TxnId). t.0) ts) c.in_ok-order.order) (sym c.in_ok-order.ensures.commits) (c.in_ok-order.ensures.order c.args.q.0 r.musts)
