use Rattle.std.proofs.Common.{◌≡◌, ◌<◌, ◌-◌, ◌⊎◌, suc, true, sym, ◌∙◌, subst, inl, inr, length, map, reverse, All, arith}
use Rattle.std.specs.List.{list_any}
use Rattle.esr_history.specs.Queries.{updates_committed_before}
use Rattle.esr_order.specs.Scans.{Access}
use Rattle.esr_order.specs.Relevant.{AreRelevant}
use Rattle.esr_order.specs.BackwardSearch.{seen_items, conflicts_with}
use Rattle.esr_order.proofs.Accessed.{accesses_inside}
use Rattle.esr_order.proofs.Gathered.{commits_length}
use Rattle.esr_order.proofs.BackwardSearch.{IsRelevantFrom, relevant_all, sought_relevant, sought_keep, sought_add}
use Rattle.esr_order.proofs.search.relevant_of.Goals as goal
use Rattle.esr_order.proofs.search.relevant_of.Goals.{then-i-first-via-then-i-first, then-i-first-via-else-i-first+then-conflict}

pub add-requires-clause-read : goal.add-requires-clause-read
add-requires-clause-read g c =
    subst (λ l. All (λ (a : Access). a.item.0 < length c.loop-i.items.read.items) l) (sym c.in_ok-accesses.ensures)
    (accesses_inside g.M.Metric.distance_by c.args.history.now.schedule c.log-invariant.ensures.legal _ (length c.loop-i.items.read.items) c.loop-i.invariant.read_len)

pub add-requires-clause-written : goal.add-requires-clause-written
add-requires-clause-written g c =
    subst (λ l. All (λ (a : Access). a.item.0 < length c.loop-i.items.written.items) l) (sym c.in_ok-accesses.ensures)
    (accesses_inside g.M.Metric.distance_by c.args.history.now.schedule c.log-invariant.ensures.legal _ (length c.loop-i.items.written.items) c.loop-i.invariant.written_len)

pub loop-i-preserved-in-loop-i : goal.loop-i-preserved-in-loop-i
loop-i-preserved-in-loop-i g c =
    let h = c.args.history.now.schedule in
    let d = g.M.Metric.distance_by in
    let q = c.args.q.0 in
    let updates = c.args.updates.now in
    let legal = c.log-invariant.ensures.legal in
    let list = c.in_ok-accesses.accesses.now in
    let i = c.loop-i.i - 1 in
    let next : c.loop-i.i ≡ suc i = omega (arith, c.loop-i-test.true) in
    let here : i < length updates = omega (arith, c.loop-i-test.true, c.loop-i.auto.i) in
    let inside : i < length (updates_committed_before h q) = omega (arith, here, commits_length d h q legal updates c.requires.updates) in
    let why : (i < c.args.first) ⊎ (list_any (conflicts_with (seen_items c.loop-i.items)) list ≡ true) =
    elim c.then-i-first.branch [
      | then-i-first-via-then-i-first w ↦ inl w.if-i-first.true
      | then-i-first-via-else-i-first+then-conflict w ↦ inr (sym w.conflict.ensures ∙ w.if-conflict.true)
    ] in
    sought_add d h q legal updates c.requires.updates c.loop-i.i i next inside here c.loop-i.items c.loop-i.relevant.items c.loop-i.invariant list c.in_ok-accesses.ensures
    (sought_relevant d h q legal updates c.requires.updates c.loop-i.i i next inside here c.loop-i.items c.loop-i.relevant.items c.loop-i.invariant list c.in_ok-accesses.ensures c.args.first c.requires.first why)
    c.add.new.self c.push.new.self.items c.in_ok-push.ensures.items c.add.ensures.read_len c.add.ensures.written_len
    c.add.ensures.read c.add.ensures.written

pub loop-i-preserved : goal.loop-i-preserved
loop-i-preserved g c =
    let h = c.args.history.now.schedule in
    let d = g.M.Metric.distance_by in
    let q = c.args.q.0 in
    let updates = c.args.updates.now in
    let legal = c.log-invariant.ensures.legal in
    let i = c.loop-i.i - 1 in
    let here : i < length updates = omega (arith, c.loop-i-test.true, c.loop-i.auto.i) in
    let inside : i < length (updates_committed_before h q) = omega (arith, here, commits_length d h q legal updates c.requires.updates) in
    sought_keep d h q legal updates c.requires.updates c.loop-i.i i (omega (arith, c.loop-i-test.true)) inside here c.loop-i.items c.loop-i.relevant.items c.loop-i.invariant c.in_ok-accesses.accesses.now c.in_ok-accesses.ensures
    c.args.first c.requires.first c.if-i-first.false (sym c.conflict.ensures ∙ c.if-conflict.false)

pub returns : goal.returns
returns g c = record {
  relevant = subst (λ l. AreRelevant c.args.history.now.schedule c.args.q.0 (map (λ t. t.0) l)) (sym c.reverse.ensures.items)
      (relevant_all c.args.history.now.schedule c.args.q.0 (map (λ t. t.0) (reverse c.loop-i.relevant.items))
      (let z : c.loop-i.i ≡ 0 = omega (arith, c.loop-i-test.false) in subst (λ i. IsRelevantFrom c.args.history.now.schedule c.args.q.0 i (map (λ t. t.0) (reverse c.loop-i.relevant.items))) z c.loop-i.invariant.relevant_from));
}
