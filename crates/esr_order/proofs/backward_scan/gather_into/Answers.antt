use Rattle.std.proofs.Common.{◌≡◌, ◌<◌, ◌-◌, ◌++◌, suc, sym, subst, ◌∙◌, ap, length, map, reverse, All, AllPairs, filter, arith}
use Rattle.std.specs.List.{range_with_len}
use Rattle.std.proofs.lemmas.List.{length-map}
use Rattle.esr_history.specs.Operations.{operations}
use Rattle.esr_order.specs.Scans.{Access}
use Rattle.esr_order.specs.ConflictPairs.{IsLexLess}
use Rattle.esr_order.specs.Conflicts.{pairs_from, on_item, AreConflicts, AreNextPaired}
use Rattle.esr_order.specs.Batches.{operation_at, batches}
use Rattle.esr_order.specs.Chains.{chain_from, last_by_update, reversed_chain, links_view}
use Rattle.esr_order.specs.Later.{batch_conflicts}
use Rattle.esr_order.proofs.Accessed.{accesses_inside}
use Rattle.esr_order.proofs.Gathering.{no_txn, rest, gathered_more, gathered_ascending, gathered_conflicting, gathered_next, gathered_chains}
use Rattle.esr_order.proofs.backward_scan.gather_into.Goals as goal

pub prepend_batch-requires-clause-linked : goal.prepend_batch-requires-clause-linked
prepend_batch-requires-clause-linked g c =
    subst (λ l. All (λ (a : Access). a.item.0 < length c.loop-i.chains) l) (sym c.in_ok-accesses.ensures)
    (accesses_inside g.M.Metric.distance_by c.args.history.now.schedule c.log-invariant.ensures.legal _ (length c.loop-i.chains) c.loop-i.invariant.0)

pub prepend_batch-requires-clause-read : goal.prepend_batch-requires-clause-read
prepend_batch-requires-clause-read g c =
    subst (λ l. All (λ (a : Access). a.item.0 < length c.loop-i.readers) l) (sym c.in_ok-accesses.ensures)
    (accesses_inside g.M.Metric.distance_by c.args.history.now.schedule c.log-invariant.ensures.legal _ (length c.loop-i.readers) c.loop-i.invariant.1)

pub loop-i-preserved : goal.loop-i-preserved
loop-i-preserved g c =
    let h = c.args.history.now.schedule in
    let updates = c.args.updates.now in
    let i = c.loop-i.i - 1 in
    let next : c.loop-i.i ≡ suc i = omega (arith, c.loop-i-test.true) in
    let inside : i < length updates = omega (arith, c.loop-i-test.true, c.loop-i.auto.i) in
    let steps = rest h updates c.loop-i.i in
    let before = c.loop-i.invariant.2.later in
    let made = c.in_ok-accesses.ensures in (
      c.in_ok-prepend_batch.ensures.chains_len ∙ c.loop-i.invariant.0,
      c.in_ok-prepend_batch.ensures.readers_len ∙ c.loop-i.invariant.1,
      gathered_more h updates i c.loop-i.i next inside no_txn (map links_view c.loop-i.chains) (map (λ r. r.items) c.loop-i.readers) c.loop-i.pairs.items c.loop-i.invariant.2 c.in_ok-accesses.accesses.now made
          (map links_view c.prepend_batch.new.chains) (map (λ r. r.items) c.prepend_batch.new.readers) (c.in_ok-prepend_batch.ensures.later steps before)
          c.prepend_batch.new.conflicts.items c.sort_and_dedup.new.positions.items (c.in_ok-prepend_batch.ensures.conflicts steps before ∙ ap (λ l. l ++ batch_conflicts (map (operation_at i) c.in_ok-accesses.accesses.now) steps) c.clear.ensures.items)
          c.sort_and_dedup.ensures.ascending c.sort_and_dedup.ensures.keeps c.sort_and_dedup.ensures.adds_none c.sort_and_dedup.ensures.count_within_max
          c.push_conflicts.new.pairs.items (c.in_ok-push_conflicts.ensures ∙ ap (λ l. c.loop-i.pairs.items ++ reverse (pairs_from i l)) c.deref.ensures.value),
    )

pub returns-clause-ascending : goal.returns-clause-ascending
returns-clause-ascending g c = subst (AllPairs IsLexLess) (sym c.reverse.ensures.items)
    (gathered_ascending c.args.history.now.schedule c.args.updates.now c.loop-i.i (omega (arith, c.loop-i-test.false)) (map links_view c.loop-i.chains) (map (λ r. r.items) c.loop-i.readers) c.loop-i.pairs.items c.loop-i.invariant.2)

pub returns-clause-conflicting : goal.returns-clause-conflicting
returns-clause-conflicting g c = subst (AreConflicts (batches (operations c.args.history.now.schedule) 0 (map (λ t. t.0) c.args.updates.now))) (sym c.reverse.ensures.items)
    (gathered_conflicting c.args.history.now.schedule c.args.updates.now c.loop-i.i (omega (arith, c.loop-i-test.false)) (map links_view c.loop-i.chains) (map (λ r. r.items) c.loop-i.readers) c.loop-i.pairs.items c.loop-i.invariant.2)

pub returns-clause-successive_writers_paired : goal.returns-clause-successive_writers_paired
returns-clause-successive_writers_paired g c = λ x. subst (λ l. AreNextPaired l (filter (λ s. s.writes) (on_item x (batches (operations c.args.history.now.schedule) 0 (map (λ t. t.0) c.args.updates.now))))) (sym c.reverse.ensures.items)
    (gathered_next c.args.history.now.schedule c.args.updates.now c.loop-i.i (omega (arith, c.loop-i-test.false)) (map links_view c.loop-i.chains) (map (λ r. r.items) c.loop-i.readers) c.loop-i.pairs.items c.loop-i.invariant.2 x)

pub returns-clause-len : goal.returns-clause-len
returns-clause-len g c =
    let reversed_is = c.reverse_all.ensures in
    omega (arith, ap length reversed_is, length-map c.reverse_all.new.chains links_view, length-map (map links_view c.loop-i.chains) reversed_chain, length-map c.loop-i.chains links_view, c.loop-i.invariant.0, c.requires.linked)

pub returns-clause-chains : goal.returns-clause-chains
returns-clause-chains g c =
    let h = c.args.history.now.schedule in
    let updates = c.args.updates.now in
    let chains = c.loop-i.chains in
    let steps = batches (operations h) 0 (map (λ t. t.0) updates) in
    c.reverse_all.ensures
    ∙ (gathered_chains h updates c.loop-i.i (omega (arith, c.loop-i-test.false)) (map links_view chains) (map (λ r. r.items) c.loop-i.readers) c.loop-i.pairs.items c.loop-i.invariant.2
    ∙ ap (λ n. map (λ x. chain_from (last_by_update steps x) (length updates)) (range_with_len 0 n)) (length-map chains links_view ∙ c.loop-i.invariant.0))
