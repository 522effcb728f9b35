use Rattle.std.proofs.Common.{arith, ◌≡◌, ◌+◌, ◌<◌, length, refl, ap, subst}
use Rattle.esr_cert.specs.Network.{Arc}
use Rattle.esr_cert.specs.Adjacency.{residual_arcs_below, Counted}
use Rattle.esr_cert.proofs.AdjacencyLaws.{along_small, against_small, counted_arc}
use Rattle.esr_cert.proofs.adjacency.count_others.Goals as goal

pub overflow_add-index_mut : goal.overflow_add-index_mut
overflow_add-index_mut c =
    let l : c.loop-i.i < length c.args.arcs.now = omega (arith, c.loop-i-test.true, c.len-i-end.ensures) in
    omega (arith, c.requires.count_within_max, l, along_small c.loop-i.i c.requires.ends l (ap (λ (a : Arc). a.from) c.at-arc.ensures) c.index_mut.ensures.value c.loop-i.invariant)

pub overflow_add-index_mut-in-loop-i : goal.overflow_add-index_mut-in-loop-i
overflow_add-index_mut-in-loop-i c =
    let l : c.loop-i.i < length c.args.arcs.now = omega (arith, c.loop-i-test.true, c.len-i-end.ensures) in
    omega (arith, c.requires.count_within_max, l, against_small c.loop-i.i c.requires.ends l (ap (λ (a : Arc). a.from) c.at-arc.ensures) c.index_mut.ensures.value c.loop-i.invariant (ap (λ (a : Arc). a.to) c.at-arc.ensures) c.index_mut-in-loop-i.ensures.value)

pub loop-i-preserved : goal.loop-i-preserved
loop-i-preserved c =
    let l : c.loop-i.i < length c.args.arcs.now = omega (arith, c.loop-i-test.true, c.len-i-end.ensures) in
    counted_arc c.loop-i.i c.requires.ends l (ap (λ (a : Arc). a.from) c.at-arc.ensures) c.index_mut.ensures.value c.loop-i.invariant (ap (λ (a : Arc). a.to) c.at-arc.ensures) c.index_mut-in-loop-i.ensures.value (c.loop-i.i + 1) refl

pub returns : goal.returns
returns c =
    let all : c.loop-i.i ≡ length c.args.arcs.now = omega (arith, c.loop-i-test.false, c.loop-i.auto.i-end, c.requires.first, c.len-i-end.ensures) in
    subst (λ n. Counted c.args.arcs.now c.args._nodes (residual_arcs_below n) c.loop-i.degrees.items) all c.loop-i.invariant
