use Rattle.std.proofs.Common.{map, take}
use Rattle.esr_plan.specs.Plan.{weights_of}
use Rattle.esr_explore.specs.Searches.{AreRunSummaries}
use Rattle.esr_explore.proofs.pipeline.summaries_of.Given as goal

-- the orders so far have their summaries
abbrev pub invariant-loop-order : goal.invariant-loop-order
invariant-loop-order l =
    AreRunSummaries l.drive_plan.values.items (weights_of l.drive_plan.weights.items) (map (λ b. b.items) l.drive_plan.blocks.items) l.queries
    (take l.order-index (map (λ o. o.items) l.orders)) l.summaries.items
