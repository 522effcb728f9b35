use Rattle.std.proofs.Common.{◌≡◌, arith, get_or, length, refl, subst}
use Rattle.esr_cert.specs.Adjacency.{residual_arcs_below}
use Rattle.esr_flow.specs.ResidualGraph.{network_arcs}
use Rattle.esr_flow.proofs.FillLaws.{ArePut, along_within, along_bounded, against_within, against_bounded, put_both, all_put}
use Rattle.esr_flow.proofs.graph.ResidualGraph.entries.Goals as goal

pub of-none-requires : goal.of-none-requires
of-none-requires c = omega arith

pub overflow_cast-i : goal.overflow_cast-i
overflow_cast-i c = omega (arith, c.loop-i-test.true, c.requires.flow, c.args.self.now.kept.steps.count_within_max)

pub put_next-requires-clause-count_within_max : goal.put_next-requires-clause-count_within_max
put_next-requires-clause-count_within_max c =
    along_bounded c.args.self.now c.args.flow.now c.loop-i.counts.items c.loop-i.entries.items c.loop-i.i (omega (arith, c.loop-i-test.true, c.requires.flow)) c.loop-i.invariant c.arc-arc.result c.arc-arc.ensures (get_or c.args.flow.now c.loop-i.i 0) refl

pub put_next-requires-clause-place : goal.put_next-requires-clause-place
put_next-requires-clause-place c =
    along_within c.args.self.now c.args.flow.now c.loop-i.counts.items c.loop-i.entries.items c.loop-i.i (omega (arith, c.loop-i-test.true, c.requires.flow)) c.loop-i.invariant c.arc-arc.result c.arc-arc.ensures (get_or c.args.flow.now c.loop-i.i 0) refl

pub put_next-requires-in-loop-i-clause-count_within_max : goal.put_next-requires-in-loop-i-clause-count_within_max
put_next-requires-in-loop-i-clause-count_within_max c =
    against_bounded c.args.self.now c.args.flow.now c.loop-i.counts.items c.loop-i.entries.items c.loop-i.i (omega (arith, c.loop-i-test.true, c.requires.flow)) c.loop-i.invariant c.arc-arc.result c.arc-arc.ensures (get_or c.args.flow.now c.loop-i.i 0) refl c.put_next.new.counts.items c.put_next.new.entries.items c.entries_of-along.result.0 c.entries_of-along.ensures.along c.put_next.ensures.counts c.put_next.ensures.entries

pub put_next-requires-in-loop-i-clause-place : goal.put_next-requires-in-loop-i-clause-place
put_next-requires-in-loop-i-clause-place c =
    against_within c.args.self.now c.args.flow.now c.loop-i.counts.items c.loop-i.entries.items c.loop-i.i (omega (arith, c.loop-i-test.true, c.requires.flow)) c.loop-i.invariant c.arc-arc.result c.arc-arc.ensures (get_or c.args.flow.now c.loop-i.i 0) refl c.put_next.new.counts.items c.put_next.new.entries.items c.entries_of-along.result.0 c.entries_of-along.ensures.along c.put_next.ensures.counts c.put_next.ensures.entries

pub loop-i-preserved : goal.loop-i-preserved
loop-i-preserved c =
    put_both c.args.self.now c.args.flow.now c.loop-i.counts.items c.loop-i.entries.items c.loop-i.i (omega (arith, c.loop-i-test.true, c.requires.flow)) c.loop-i.invariant c.arc-arc.result c.arc-arc.ensures (get_or c.args.flow.now c.loop-i.i 0) refl c.put_next.new.counts.items c.put_next.new.entries.items c.entries_of-along.result.0 c.entries_of-along.ensures.along c.put_next.ensures.counts c.put_next.ensures.entries
    c.put_next-in-loop-i.new.counts.items c.put_next-in-loop-i.new.entries.items c.entries_of-along.result.1 c.entries_of-along.ensures.against c.put_next-in-loop-i.ensures.counts c.put_next-in-loop-i.ensures.entries

pub returns : goal.returns
returns c =
    let all : c.loop-i.i ≡ length (network_arcs c.args.self.now) = omega (arith, c.loop-i-test.false, c.requires.flow) in
    all_put c.args.self.now c.args.flow.now c.loop-i.counts.items c.loop-i.entries.items
    (subst (λ n. ArePut c.args.self.now c.args.flow.now (residual_arcs_below n) c.loop-i.counts.items c.loop-i.entries.items) all c.loop-i.invariant)
