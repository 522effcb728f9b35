use Rattle.std.proofs.Common.{arith, ◌≡◌, ◌+◌, ◌<◌, ◌∙◌, length, sym, subst}
use Rattle.esr_cert.specs.Adjacency.{residual_arcs_below, Counted}
use Rattle.esr_cert.proofs.AdjacencyLaws.{along_small, against_small, counted_arc}
use Rattle.esr_cert.proofs.adjacency.count_links.Goals as goal

pub overflow_add-index_mut : goal.overflow_add-index_mut
overflow_add-index_mut c =
    let l : c.loop-j.j < length c.args.chain.now.costs.items = omega (arith, c.loop-j-test.true, c.len-j-end.ensures, c.args.chain.now.costs.ok.0) in
    let low : c.args._begin + c.loop-j.j < length c.args._arcs.now = omega (arith, l, c.requires.links.inside) in
    omega (arith, c.requires.count_within_max, low, along_small (c.args._begin + c.loop-j.j) c.requires.ends low (c.arc_tail-from.ensures ∙ sym (c.requires.links.from c.loop-j.j l)) c.index_mut.ensures.value c.loop-j.invariant)

pub overflow_add-index_mut-in-loop-j : goal.overflow_add-index_mut-in-loop-j
overflow_add-index_mut-in-loop-j c =
    let l : c.loop-j.j < length c.args.chain.now.costs.items = omega (arith, c.loop-j-test.true, c.len-j-end.ensures, c.args.chain.now.costs.ok.0) in
    let low : c.args._begin + c.loop-j.j < length c.args._arcs.now = omega (arith, l, c.requires.links.inside) in
    let small = against_small (c.args._begin + c.loop-j.j) c.requires.ends low (c.arc_tail-from.ensures ∙ sym (c.requires.links.from c.loop-j.j l)) c.index_mut.ensures.value c.loop-j.invariant
    (c.arc_head-to.ensures ∙ sym (c.requires.links.to c.loop-j.j l)) c.index_mut-in-loop-j.ensures.value in
    omega (arith, c.requires.count_within_max, low, small)

pub loop-j-preserved : goal.loop-j-preserved
loop-j-preserved c =
    let l : c.loop-j.j < length c.args.chain.now.costs.items = omega (arith, c.loop-j-test.true, c.len-j-end.ensures, c.args.chain.now.costs.ok.0) in
    counted_arc (c.args._begin + c.loop-j.j) c.requires.ends (omega (arith, l, c.requires.links.inside)) (c.arc_tail-from.ensures ∙ sym (c.requires.links.from c.loop-j.j l)) c.index_mut.ensures.value c.loop-j.invariant
    (c.arc_head-to.ensures ∙ sym (c.requires.links.to c.loop-j.j l)) c.index_mut-in-loop-j.ensures.value (c.args._begin + (c.loop-j.j + 1)) (omega arith)

pub returns : goal.returns
returns c =
    let all : c.loop-j.j ≡ length c.args.chain.now.costs.items = omega (arith, c.loop-j-test.false, c.loop-j.auto.j-end, c.len-j-end.ensures, c.args.chain.now.costs.ok.0) in
    subst (λ n. Counted c.args._arcs.now c.args._nodes (residual_arcs_below (c.args._begin + n)) c.loop-j.degrees.items) all c.loop-j.invariant
