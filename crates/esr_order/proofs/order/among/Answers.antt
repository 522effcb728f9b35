use Rattle.std.proofs.Common.{length, map, ◌∙◌, ap, filter, subst}
use Rattle.std.specs.List.{range_with_len}
use Rattle.esr_history.specs.Operations.{operations}
use Rattle.esr_order.specs.Batches.{batches}
use Rattle.esr_order.specs.Conflicts.{on_item, AreConflicts, AreNextPaired}
use Rattle.esr_order.specs.Chains.{chain_from, last_by_update, links_view}
use Rattle.esr_order.proofs.Amid.{bounded_pairs, made}
use Rattle.esr_order.proofs.order.among.Goals as goal

pub returns-clause-sparse : goal.returns-clause-sparse
returns-clause-sparse g c =
    let h = c.args.history.now.schedule in
    let pairs = c.in_ok-gathered.gathered.pairs.items in
    bounded_pairs g.M.Metric.distance_by h c.log-invariant.ensures.legal c.args.commits.items c.requires.once c.requires.keeps c.requires.count_within_max pairs
    (subst (λ commits. AreConflicts (batches (operations h) 0 (map (λ t. t.0) commits)) pairs) c.deref.ensures.value c.in_ok-gathered.ensures.conflicting)

pub returns-clause-order : goal.returns-clause-order
returns-clause-order g c = λ q musts.
    let h = c.args.history.now.schedule in
    let pairs = c.in_ok-gathered.gathered.pairs.items in
    let same = c.deref.ensures.value in
    made g.M.Metric.distance_by h c.log-invariant.ensures.legal c.args.commits.items c.requires.once c.requires.keeps c.requires.count_within_max pairs c.in_ok-gathered.ensures.ascending (
      subst (λ commits. AreConflicts (batches (operations h) 0 (map (λ t. t.0) commits)) pairs) same c.in_ok-gathered.ensures.conflicting,
      (λ x. subst (λ commits. AreNextPaired pairs (filter (λ s. s.writes) (on_item x (batches (operations h) 0 (map (λ t. t.0) commits))))) same (c.in_ok-gathered.ensures.successive_writers_paired x)),
    )
    (map links_view c.in_ok-gathered.gathered.chains.items)
    (c.in_ok-gathered.ensures.chains
    ∙ ap (λ commits. map (λ x. chain_from (last_by_update (batches (operations h) 0 (map (λ t. t.0) commits)) x) (length commits)) (range_with_len 0 (length h.opening))) same)
    c.args.first c.requires.first c.in_ok-must.must.items c.in_ok-must.ensures q musts
