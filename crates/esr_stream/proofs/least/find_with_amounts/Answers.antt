use Rattle.std.proofs.Common.{arith, length}
use Rattle.esr_order.proofs.Early.{must_below}
use Rattle.esr_stream.specs.Query.{cost_in}
use Rattle.esr_stream.proofs.MarkLaws.{first_forced, none_marked_first}
use Rattle.esr_stream.proofs.least.find_with_amounts.Goals as goal

pub checkpoint_of-checkpoint-requires : goal.checkpoint_of-checkpoint-requires
checkpoint_of-checkpoint-requires g c =
    omega (arith, c.requires.first, must_below g.M.Metric.distance_by c.args.query.now.schedule c.args.query.now.query c.history-invariant.ensures.legal)

pub mark_least-requires-clause-forced : goal.mark_least-requires-clause-forced
mark_least-requires-clause-forced g c =
    let a = c.args.query.now in
    first_forced g.M.Metric.distance_by a.schedule a.query c.history-invariant.ensures.legal (length a.schedule.opening) c.in-Some.worth (cost_in g.M.Metric.distance_by a) c.args.first c.args.marks.now c.requires.first (λ i l. c.requires.only i (omega (arith, l, c.requires.marks)))

pub mark_least-requires-clause-none_marked : goal.mark_least-requires-clause-none_marked
mark_least-requires-clause-none_marked g c = none_marked_first c.args.first c.args.marks.now c.requires.only
