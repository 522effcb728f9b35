use Rattle.std.proofs.Common.{ℕ, List, map, subst}
use Rattle.esr_plan.specs.Plan.{weights_of}
use Rattle.esr_explore.specs.Summaries.{IsSummary}
use Rattle.esr_explore.proofs.Searching.{drawn_more}
use Rattle.esr_explore.proofs.pipeline.drawn_summaries.Goals as goal

pub loop-seed-preserved : goal.loop-seed-preserved
loop-seed-preserved c =
    let drive_plan = c.args.drive_plan.now in
    let order = c.in_ok-order.order.items in
    let inconsistencies : IsSummary drive_plan.values.items (weights_of drive_plan.weights.items) (map (λ b. b.items) drive_plan.blocks.items) c.args.queries.now order c.in_ok-run_summary.run_summary =
    subst (λ (o : List ℕ). IsSummary drive_plan.values.items (weights_of drive_plan.weights.items) (map (λ b. b.items) drive_plan.blocks.items) c.args.queries.now o c.in_ok-run_summary.run_summary) c.deref.ensures.value c.in_ok-run_summary.ensures in
    drawn_more drive_plan.values.items (weights_of drive_plan.weights.items) (map (λ b. b.items) drive_plan.blocks.items) c.args.queries.now c.args.counts.now
    c.loop-seed.seed c.loop-seed.summaries.items c.push_summary.new.summaries.items order c.in_ok-run_summary.run_summary c.loop-seed.invariant c.in_ok-order.ensures inconsistencies
    c.in_ok-push_summary.ensures
