use Rattle.std.proofs.Common.{◌≡◌, ◌-◌, ◌∙◌, [], ◌∷◌, true, slice_get, Some, sym, ap, subst, length, take, drop, filter_map, All, arith}
use Rattle.std.proofs.lemmas.List.{length-append}
use Rattle.esr_base.specs.declared.numbers.TxnId.{TxnId}
use Rattle.esr_history.specs.Events.{is_committed}
use Rattle.esr_history.specs.Machine.{accepted_in}
use Rattle.esr_order.specs.Index.{Indexed}
use Rattle.esr_order.specs.Scans.{commit_in}
use Rattle.esr_order.proofs.Indexes.{index_more, index_over}
use Rattle.esr_order.proofs.index.Index.extend.Goals as goal

pub entries-preserved : goal.entries-preserved
entries-preserved g c =
    let h = c.args.history.now.schedule in let e = c.in-Some.entry in let at = c.entries.self-inside.read in
    let there : Some e ≡ slice_get h.entries at = sym c.in-Some.is ∙ (c.get.ensures ∙ ap (λ es. slice_get es at) c.log-log.ensures.entries) in
    let before = c.entries.self-inside.commits.items in
    let more = c.in_ok-push_committer.ensures.ok in (
      index_more g.M.Metric.distance_by h c.log-log.ensures.legal (record { read = at; commits = before; rows = c.entries.self-inside.rows }) e c.push_committer.new.commits.items c.entries.invariant.0 there more,
      omega (arith, c.entries.invariant.1, ap length more, length-append before (filter_map commit_in (e ∷ []))),
    )

pub extend-requires-clause-committed : goal.extend-requires-clause-committed
extend-requires-clause-committed g c =
    let h = c.args.history.now.schedule in
    let i : Indexed = record { read = c.entries.self-inside.read; commits = c.entries.self-inside.commits.items; rows = c.entries.self-inside.rows } in
    let all : i.read ≡ length h.entries = omega (arith, c.entries.invariant.0.count_within_max, c.entries-test.false, c.len-count.ensures, ap length c.log-log.ensures.entries) in
    let first = c.len-first.result in
    subst (λ l. All (λ (t : TxnId). is_committed (accepted_in h) t.0 ≡ true) (take (length l - first) (drop first l))) (sym c.deref.ensures.value) (index_over h i c.entries.invariant.0 all first)
