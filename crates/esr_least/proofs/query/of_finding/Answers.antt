use Rattle.std.proofs.Common.{◌∙◌, map}
use Rattle.esr_base.specs.declared.numbers.TxnId.{TxnId}
use Rattle.esr_order.specs.Placements.{is_among}
use Rattle.esr_order.proofs.Least.{law_of_listed_sets}
use Rattle.esr_least.proofs.query.of_finding.Goals as goal

pub returns : goal.returns
returns g c =
    let a = c.requires.answer in
    let law = law_of_listed_sets g.M.Metric.distance_by c.args.history.now.schedule c.args.q.0 (is_among (map (λ (t : TxnId). t.0) c.args.finding.before.items)) a.smallest in
    λ i. (c.args.q.0, (a.distance_is ∙ law.1) i, a.import_is i, (a.in_order ∙ law.0) i)
