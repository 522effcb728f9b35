use Rattle.std.proofs.Common.{map}
use Rattle.esr_plan.specs.Plan.{weights_of}
use Rattle.esr_explore.specs.Searches.{orders_of}
use Rattle.esr_explore.proofs.Searching.{inconsistencies_all, each_inconsistency}
use Rattle.esr_explore.proofs.pipeline.search_orders.Goals as goal

pub returns-clause-all : goal.returns-clause-all
returns-clause-all c = λ all.
    let drive_plan = c.args.drive_plan.now in
    inconsistencies_all drive_plan.values.items (weights_of drive_plan.weights.items) (map (λ b. b.items) drive_plan.blocks.items) c.args.queries.now c.args.counts.now
    (orders_of c.in_ok-ways.ways) c.in_ok-summaries.summaries.items c.requires.counts (c.in_ok-ways.ensures.all all) c.in_ok-summaries.ensures.all

pub returns-clause-every : goal.returns-clause-every
returns-clause-every c = λ all.
    let drive_plan = c.args.drive_plan.now in
    each_inconsistency drive_plan.values.items (weights_of drive_plan.weights.items) (map (λ b. b.items) drive_plan.blocks.items) c.args.queries.now c.args.counts.now
    c.in_ok-summaries.summaries.items c.requires.counts
    (inconsistencies_all drive_plan.values.items (weights_of drive_plan.weights.items) (map (λ b. b.items) drive_plan.blocks.items) c.args.queries.now c.args.counts.now
    (orders_of c.in_ok-ways.ways) c.in_ok-summaries.summaries.items c.requires.counts (c.in_ok-ways.ensures.all all) c.in_ok-summaries.ensures.all)
