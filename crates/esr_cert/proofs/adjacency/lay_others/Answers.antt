use Rattle.std.proofs.Common.{arith, subst}
use Rattle.esr_cert.specs.Adjacency.{IsAdjacencyUpTo}
use Rattle.esr_cert.proofs.IsAdjacencyUpTo.{within_along, within_against, laid_more}
use Rattle.esr_cert.proofs.adjacency.lay_others.Goals as goal

pub add_step-requires-clause-in_bounds : goal.add_step-requires-clause-in_bounds
add_step-requires-clause-in_bounds c =
    rw c.at-arc.ensures (within_along (omega (arith, c.loop-i-test.true, c.len-i-end.ensures)) c.requires.ends c.loop-i.invariant)

pub add_step-requires-in-loop-i-clause-in_bounds : goal.add_step-requires-in-loop-i-clause-in_bounds
add_step-requires-in-loop-i-clause-in_bounds c =
    rw c.at-arc.ensures (within_against (omega (arith, c.loop-i-test.true, c.len-i-end.ensures)) c.requires.ends c.loop-i.invariant _ _ (rw c.at-arc.ensures at c.add_step.ensures.spans) (rw c.at-arc.ensures at c.add_step.ensures.steps))

pub loop-i-preserved : goal.loop-i-preserved
loop-i-preserved c =
    laid_more (omega (arith, c.loop-i-test.true, c.len-i-end.ensures)) c.requires.ends c.loop-i.invariant _ _ (rw c.at-arc.ensures at c.add_step.ensures.spans) (rw c.at-arc.ensures at c.add_step.ensures.steps)
    _ _ (rw c.at-arc.ensures at c.add_step-in-loop-i.ensures.spans) (rw c.at-arc.ensures at c.add_step-in-loop-i.ensures.steps)

pub returns : goal.returns
returns c = subst (λ n. IsAdjacencyUpTo c.args.arcs.now c.args._nodes n c.loop-i.adjacency.spans.items c.loop-i.adjacency.steps.items) (omega (arith, c.loop-i-test.false, c.loop-i.auto.i-end, c.requires.first, c.len-i-end.ensures)) c.loop-i.invariant
