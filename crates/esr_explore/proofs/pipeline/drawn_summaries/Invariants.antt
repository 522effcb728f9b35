use Rattle.std.proofs.Common.{map}
use Rattle.esr_plan.specs.Plan.{weights_of}
use Rattle.esr_explore.specs.Searches.{AreDrawn}
use Rattle.esr_explore.proofs.pipeline.drawn_summaries.Given as goal

-- the orders so far were drawn and have their summaries
abbrev pub invariant-loop-seed : goal.invariant-loop-seed
invariant-loop-seed l =
    AreDrawn l.drive_plan.values.items (weights_of l.drive_plan.weights.items) (map (λ b. b.items) l.drive_plan.blocks.items) l.queries
    l.counts l.seed l.summaries.items
