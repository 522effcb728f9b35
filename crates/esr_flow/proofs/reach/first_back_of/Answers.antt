use Rattle.std.proofs.Common.{arith, ap, length}
use Rattle.esr_flow.proofs.PassLaws.{count_is}
use Rattle.esr_flow.proofs.reach.first_back_of.Goals as goal

pub returns : goal.returns
returns c = omega (arith, c.requires.count, count_is c.args.graph.now.problem.now c.must.ensures.well_formed, ap length c.must.ensures.list, ap length c.before-2.ensures.list)
