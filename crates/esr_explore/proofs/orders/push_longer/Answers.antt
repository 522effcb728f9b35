use Rattle.std.proofs.Common.{◌∙◌, ◌++◌, ap, map}
use Rattle.esr_explore.specs.Orders.{longer_by}
use Rattle.esr_explore.proofs.Every.{one_more}
use Rattle.esr_explore.proofs.orders.push_longer.Goals as goal

pub loop-block-preserved : goal.loop-block-preserved
loop-block-preserved c =
    let f = longer_by c.args.counts.now c.args.order.now in
    c.in_ok-push_longer_by.ensures
    ∙ (ap (λ l. l ++ f c.loop-block.block) c.loop-block.invariant ∙ one_more f (map (λ o. o.items) c.args.out.now.items) c.loop-block.block)
