use Rattle.std.proofs.Common.{◌≡◌, ◌<◌, ◌∙◌, ℕ, List, [], Vec, ap, arith, get_or, length, map, sym}
use Rattle.std.specs.declared.alloc.Global.{Global}
use Rattle.std.proofs.lemmas.List.{get_or-map, length-map}
use Rattle.esr_plan.specs.Plan.{weights_of}
use Rattle.esr_explore.proofs.Searching.{summaries_more}
use Rattle.esr_explore.proofs.pipeline.summaries_of.Goals as goal

pub loop-order-preserved : goal.loop-order-preserved
loop-order-preserved c =
    let bytes : Vec ℕ Global → List ℕ = λ (o : Vec ℕ Global). o.items in
    let orders = c.args.orders.now in let i = c.loop-order.order-index in let drive_plan = c.args.drive_plan.now in
    let within : i < length (map bytes orders) = omega (arith, c.loop-order-test.true, length-map orders bytes) in
    let own : c.deref.result.now ≡ get_or (map bytes orders) i [] =
    c.deref.ensures.value ∙ (ap bytes c.order-item.is ∙ sym (get_or-map bytes orders i c.order-item.result [] c.loop-order-test.true)) in
    summaries_more drive_plan.values.items (weights_of drive_plan.weights.items) (map (λ b. b.items) drive_plan.blocks.items) c.args.queries.now (map bytes orders) i
    c.deref.result.now [] c.loop-order.summaries.items c.push_summary.new.summaries.items c.in_ok-run_summary.run_summary within c.loop-order.invariant own c.in_ok-run_summary.ensures
    c.in_ok-push_summary.ensures
