use Rattle.std.proofs.Common.{◌≡◌, ◌<◌, ◌∙◌, ◌++◌, ◌∷◌, [], Bool, true, false, cond, get_or, refl, ap, arith, length, map, take_all, filter}
use Rattle.std.proofs.lemmas.List.{map-append}
use Rattle.esr_base.specs.declared.numbers.TxnId.{TxnId}
use Rattle.esr_history.specs.Queries.{updates_committed_before}
use Rattle.esr_order.proofs.Gathering.{no_txn}
use Rattle.esr_order.proofs.BackwardSearch.{number_at}
use Rattle.esr_bound.specs.Amounts.{among_marked, mark_at}
use Rattle.esr_stream.proofs.MarkLaws.{members_more}
use Rattle.esr_stream.proofs.least.members_of.Goals as goal

-- the number of a transaction that is appended if it is marked
one_number : (b : Bool) (t : TxnId) → map (λ (t : TxnId). t.0) (cond b (t ∷ []) []) ≡ cond b (t.0 ∷ []) []
one_number true t = refl
one_number false t = refl

pub loop-i-init : goal.loop-i-init
loop-i-init g c = ap (map (λ (t : TxnId). t.0)) c.in_ok-txns.ensures.items

pub loop-i-preserved : goal.loop-i-preserved
loop-i-preserved g c =
    let h = c.args.query.now.schedule in
    let d = g.M.Metric.distance_by in
    let q = c.args.query.now.query in
    let updates = c.updates-updates.result.now in
    let marks = c.args.marks.now in
    let legal = c.history-invariant.ensures.legal in
    let i = c.loop-i.i in
    let here : i < length updates = c.loop-i-test.true in
    let inside : i < length (updates_committed_before h q) = omega (arith, here, c.updates-updates.ensures.len) in
    let t : TxnId = get_or updates i no_txn in
    ap (map (λ (t : TxnId). t.0)) c.in_ok-push_if.ensures
    ∙ map-append (λ (t : TxnId). t.0) c.loop-i.txns.items (cond (mark_at marks i) (t ∷ []) [])
    ∙ ap (λ xs. map (λ (t : TxnId). t.0) c.loop-i.txns.items ++ xs) (one_number (mark_at marks i) t ∙ ap (λ u. cond (mark_at marks i) (u ∷ []) []) (number_at updates (updates_committed_before h q) i no_txn c.updates-updates.ensures.updates here))
    ∙ members_more d h q legal marks i (map (λ (t : TxnId). t.0) c.loop-i.txns.items) inside c.loop-i.invariant

pub returns : goal.returns
returns g c =
    let h = c.args.query.now.schedule in
    c.loop-i.invariant ∙ ap (filter (among_marked (updates_committed_before h c.args.query.now.query) c.args.marks.now)) (take_all c.loop-i.i (updates_committed_before h c.args.query.now.query) (omega (arith, c.updates-updates.ensures.len)))
