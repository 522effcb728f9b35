use Rattle.std.proofs.Common.{◌≡◌, ◌≢◌, ◌*◌, ◌≤◌, length, map, filter, sym, ◌∙◌, ap, subst, AllPairs, false}
use Rattle.std.specs.List.{range_with_len}
use Rattle.esr_history.specs.Queries.{updates_committed_before}
use Rattle.esr_history.specs.Serial.{is_before}
use Rattle.esr_history.proofs.Membership.{All-from_pairs}
use Rattle.esr_history.specs.Operations.{operations}
use Rattle.esr_order.specs.Placements.{is_among}
use Rattle.esr_order.specs.Chains.{nth}
use Rattle.esr_order.specs.Orders.{IsConflictOrderOn}
use Rattle.esr_order.proofs.ConflictOrder.{in_order}
use Rattle.esr_order.proofs.Early.{must_below, must_positions}
use Rattle.esr_order.proofs.Complete.{order_whole}
use Rattle.esr_order.proofs.Gathered.{commits_bounded, commits_length}
use Rattle.esr_order.proofs.Commits.{updates_are}
use Rattle.esr_order.proofs.order.Order.of.Given.{Over}
use Rattle.esr_order.proofs.order.Order.of.Goals as goal

-- the updates that were listed are those of the query
same : (g : Over) (c : goal.After-among-arg-2-1 g) → map (λ t. t.0) c.in_ok-commits.commits.items ≡ updates_committed_before c.args.history.now.schedule c.args.q.0
same g c = updates_are c.args.history.now.schedule c.args.q.0 c.deref.result.now (ap (map (λ t. t.0)) c.deref.ensures.value ∙ c.in_ok-committed.ensures) c.in_ok-commits.commits.items c.in_ok-commits.ensures

pub among-requires-clause-once : goal.among-requires-clause-once
among-requires-clause-once g c =
    let us = updates_committed_before c.args.history.now.schedule c.args.q.0 in
    subst (AllPairs (λ u v. u ≢ v)) (sym (same g c)) (All-from_pairs (λ u v. u ≢ v) us (in_order g.M.Metric.distance_by c.args.history.now.schedule c.args.q.0 c.log-invariant.ensures.legal).once)

pub among-requires-clause-count_within_max : goal.among-requires-clause-count_within_max
among-requires-clause-count_within_max g c = commits_bounded g.M.Metric.distance_by c.args.history.now.schedule c.args.q.0 c.log-invariant.ensures.legal c.in_ok-commits.commits.items (same g c)

pub among-requires-clause-keeps : goal.among-requires-clause-keeps
among-requires-clause-keeps g c =
    let h = c.args.history.now.schedule in
    subst (AllPairs (λ u v. is_before h v u ≡ false)) (sym (same g c)) (All-from_pairs (λ u v. is_before h v u ≡ false) (updates_committed_before h c.args.q.0) (in_order g.M.Metric.distance_by h c.args.q.0 c.log-invariant.ensures.legal).keeps)

pub among-requires-clause-first : goal.among-requires-clause-first
among-requires-clause-first g c =
    let h = c.args.history.now.schedule in
    let d = g.M.Metric.distance_by in
    subst (λ n. c.count_must-first.result ≤ n) (sym (commits_length d h c.args.q.0 c.log-invariant.ensures.legal c.in_ok-commits.commits.items (same g c)))
    (subst (λ n. n ≤ length (updates_committed_before h c.args.q.0)) (sym c.count_must-first.ensures) (must_below d h c.args.q.0 c.log-invariant.ensures.legal))

pub returns-clause-ok : goal.returns-clause-ok
returns-clause-ok g c =
    let h = c.args.history.now.schedule in
    let q = c.args.q.0 in
    let same : map (λ t. t.0) c.in_ok-commits.commits.items ≡ updates_committed_before h q = updates_are h q c.deref.result.now (ap (map (λ t. t.0)) c.deref.ensures.value ∙ c.in_ok-committed.ensures) c.in_ok-commits.commits.items c.in_ok-commits.ensures in
    order_whole h q c.in_ok-order.order
    (subst (λ us. IsConflictOrderOn h q us c.in_ok-order.order) same
    (c.in_ok-order.ensures.order q (ap (λ us. map (nth us) (range_with_len 0 c.count_must-first.result)) same ∙ must_positions g.M.Metric.distance_by h q c.log-invariant.ensures.legal c.count_must-first.result c.count_must-first.ensures)))

pub returns-clause-sparse : goal.returns-clause-sparse
returns-clause-sparse g c =
    let same : map (λ t. t.0) c.in_ok-commits.commits.items ≡ updates_committed_before c.args.history.now.schedule c.args.q.0 = updates_are c.args.history.now.schedule c.args.q.0 c.deref.result.now (ap (map (λ t. t.0)) c.deref.ensures.value ∙ c.in_ok-committed.ensures) c.in_ok-commits.commits.items c.in_ok-commits.ensures in
    subst (λ us. length c.in_ok-order.order.before ≤ 2 * length (filter (λ p. is_among us p.txn) (operations c.args.history.now.schedule))) same c.in_ok-order.ensures.sparse

pub count_must-first-requires : goal.count_must-first-requires
count_must-first-requires g c = ap (map (λ t. t.0)) c.deref-2.ensures.value ∙ updates_are c.args.history.now.schedule c.args.q.0 c.deref.result.now (ap (map (λ t. t.0)) c.deref.ensures.value ∙ c.in_ok-committed.ensures) c.in_ok-commits.commits.items c.in_ok-commits.ensures
