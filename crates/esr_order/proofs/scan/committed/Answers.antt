use Rattle.std.proofs.Common.{◌∙◌, ap, map, filter_map, slice_get}
use Rattle.esr_base.specs.declared.numbers.TxnId.{TxnId}
use Rattle.esr_order.specs.Scans.{commit_in}
use Rattle.esr_order.proofs.Commits.{committed_at}
use Rattle.esr_order.proofs.scan.committed.Goals as goal

pub returns : goal.returns
returns g c =
    let h = c.args.history.now.schedule in
    ap (map (λ (t : TxnId). t.0))
    (c.in_ok-committed.ensures
    ∙ (ap (λ es. filter_map commit_in (filter_map (slice_get es) c.deref.result.now)) c.log.ensures.entries
    ∙ ap (λ at. filter_map commit_in (filter_map (slice_get h.entries) at)) c.deref.ensures.value))
    ∙ committed_at g.M.Metric.distance_by h c.log.ensures.legal c.in_ok-ends.ends.items c.in_ok-ends.ensures.rises c.in_ok-ends.ensures.ends
