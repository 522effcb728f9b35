use Rattle.std.proofs.Common.{rules, pos, None}
use Rattle.esr_plan.proofs.Rendered.{items_text_more}
use Rattle.esr_plan.proofs.text.push_items.Goals as goal

pub loop-i-preserved : goal.loop-i-preserved
loop-i-preserved c =
    items_text_more c.args.names.now c.args.values.now c.args.weights.now c.loop-i.i (pos 0) None c.name_at.result.now c.args.out.now.items c.loop-i.out.items c.push_item.new.out.items c.requires.values c.requires.weights c.loop-i-test.true c.loop-i.invariant c.name_at.ensures (search rules)
