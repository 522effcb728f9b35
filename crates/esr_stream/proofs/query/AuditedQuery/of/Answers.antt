use Rattle.std.proofs.Common.{◌≡◌, ◌<◌, ◌∙◌, ℕ, ap, arith, length, map, sym, true}
use Rattle.esr_base.specs.declared.numbers.TxnId.{TxnId}
use Rattle.esr_history.specs.Queries.{is_committed_query}
use Rattle.esr_order.specs.Scans.{accesses_in}
use Rattle.esr_order.proofs.Commits.{updates_are}
use Rattle.esr_order.proofs.Indexes.{index_whole}
use Rattle.esr_stream.specs.Reads.{list_at, values_of}
use Rattle.esr_stream.proofs.CostLaws.{are_read}
use Rattle.esr_stream.proofs.query.AuditedQuery.of.Goals as goal

pub invariant_of-result : goal.invariant_of-result
invariant_of-result g c =
    let h = c.args.history.now.schedule in
    let q = c.args.query.0 in
    let values_read = c.in_ok-values_read.values_read.items in
    let committed : is_committed_query h q ≡ true = sym c.is_committed_query.ensures ∙ c.if-not-is_committed_query.false in
    let read : (x : ℕ) → x < length h.opening → list_at values_read x ≡ values_of (accesses_in h.entries q) x = λ x l. c.in_ok-values_read.ensures.values x (omega (arith, l, c.items.ensures.items)) ∙ ap (λ row. values_of row x) c.in_ok-reads.ensures in
    let count : length values_read ≡ length h.opening = c.in_ok-values_read.ensures.count ∙ c.items.ensures.items in (
      c.requires,
      committed,
      updates_are h q c.commits.result.now (ap (map (λ (t : TxnId). t.0)) c.commits.ensures ∙ index_whole h c.args.index.now c.requires.0 c.requires.1) c.in_ok-updates.updates.items c.in_ok-updates.ensures,
      record { count = count; values = read; in_range = are_read g.M.Metric.distance_by h q c.log-invariant.ensures.range c.log-invariant.ensures.legal values_read count read committed },
    )
