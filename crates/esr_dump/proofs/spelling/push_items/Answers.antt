use Rattle.std.proofs.Common.{◌∙◌, ◌++◌, ap}
use Rattle.esr_dump.specs.Lines.{item_text}
use Rattle.esr_dump.proofs.Texts.{item_more}
use Rattle.esr_dump.proofs.spelling.push_items.Goals as goal

pub loop-x-preserved : goal.loop-x-preserved
loop-x-preserved c =
    let f = item_text c.args.items.now c.args.history.now.schedule in
    c.in_ok-push_item.ensures ∙ (ap (λ l. l ++ f c.loop-x.x) c.loop-x.invariant ∙ item_more f c.args.out.now.items c.loop-x.x)
