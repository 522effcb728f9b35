use Rattle.std.proofs.Common.{◌∙◌, List, Vec, ap, length, map}
use Rattle.std.specs.declared.alloc.Global.{Global}
use Rattle.esr_plan.specs.declared.call.Call.{Call}
use Rattle.esr_explore.proofs.Searching.{held_counts}
use Rattle.esr_explore.proofs.pipeline.text_of.Goals as goal

pub search_orders-requires-clause-counts : goal.search_orders-requires-clause-counts
search_orders-requires-clause-counts c =
    c.deref-2.ensures.value
    ∙ (c.in_ok-counts.ensures
    ∙ (ap (λ (bs : List (Vec Call Global)). map (λ b. length b.items) bs) c.as_slice.ensures.value ∙ held_counts c.args.drive_plan.now.blocks.items))
