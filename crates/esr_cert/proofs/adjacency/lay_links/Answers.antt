use Rattle.std.proofs.Common.{arith, ◌≡◌, ◌+◌, ◌<◌, ◌∙◌, length, sym, subst}
use Rattle.esr_cert.specs.Network.{arc_at}
use Rattle.esr_cert.specs.Adjacency.{IsAdjacencyUpTo}
use Rattle.esr_cert.proofs.IsAdjacencyUpTo.{within_along, within_against, laid_more}
use Rattle.esr_cert.proofs.adjacency.lay_links.Goals as goal

pub add_step-requires-clause-in_bounds : goal.add_step-requires-clause-in_bounds
add_step-requires-clause-in_bounds c =
    let l : c.loop-j.j < length c.args.chain.now.costs.items = omega (arith, c.loop-j-test.true, c.len-j-end.ensures, c.args.chain.now.costs.ok.0) in
    let low : c.args.begin + c.loop-j.j < length c.args._arcs.now = omega (arith, l, c.requires.links.inside) in
    let from : c.arc_tail-from.result ≡ (arc_at c.args._arcs.now (c.args.begin + c.loop-j.j)).from = c.arc_tail-from.ensures ∙ sym (c.requires.links.from c.loop-j.j l) in
    rw from (within_along low c.requires.ends c.loop-j.invariant)

pub add_step-requires-in-loop-j-clause-in_bounds : goal.add_step-requires-in-loop-j-clause-in_bounds
add_step-requires-in-loop-j-clause-in_bounds c =
    let l : c.loop-j.j < length c.args.chain.now.costs.items = omega (arith, c.loop-j-test.true, c.len-j-end.ensures, c.args.chain.now.costs.ok.0) in
    let low : c.args.begin + c.loop-j.j < length c.args._arcs.now = omega (arith, l, c.requires.links.inside) in
    let from : c.arc_tail-from.result ≡ (arc_at c.args._arcs.now (c.args.begin + c.loop-j.j)).from = c.arc_tail-from.ensures ∙ sym (c.requires.links.from c.loop-j.j l) in
    let to : c.arc_head-to.result ≡ (arc_at c.args._arcs.now (c.args.begin + c.loop-j.j)).to = c.arc_head-to.ensures ∙ sym (c.requires.links.to c.loop-j.j l) in
    rw to (within_against low c.requires.ends c.loop-j.invariant _ _ (rw from at c.add_step.ensures.spans) (rw from at c.add_step.ensures.steps))

pub loop-j-preserved : goal.loop-j-preserved
loop-j-preserved c =
    let l : c.loop-j.j < length c.args.chain.now.costs.items = omega (arith, c.loop-j-test.true, c.len-j-end.ensures, c.args.chain.now.costs.ok.0) in
    let low : c.args.begin + c.loop-j.j < length c.args._arcs.now = omega (arith, l, c.requires.links.inside) in
    let from : c.arc_tail-from.result ≡ (arc_at c.args._arcs.now (c.args.begin + c.loop-j.j)).from = c.arc_tail-from.ensures ∙ sym (c.requires.links.from c.loop-j.j l) in
    let to : c.arc_head-to.result ≡ (arc_at c.args._arcs.now (c.args.begin + c.loop-j.j)).to = c.arc_head-to.ensures ∙ sym (c.requires.links.to c.loop-j.j l) in
    let next : c.args.begin + c.loop-j.j + 1 ≡ c.args.begin + (c.loop-j.j + 1) = omega arith in
    subst (λ n. IsAdjacencyUpTo c.args._arcs.now c.args._nodes n c.add_step-in-loop-j.new.self.spans.items c.add_step-in-loop-j.new.self.steps.items) next
    (laid_more low c.requires.ends c.loop-j.invariant _ _ (rw from at c.add_step.ensures.spans) (rw from at c.add_step.ensures.steps)
    _ _ (rw to at c.add_step-in-loop-j.ensures.spans) (rw to at c.add_step-in-loop-j.ensures.steps))

pub returns : goal.returns
returns c =
    let all : c.loop-j.j ≡ length c.args.chain.now.costs.items = omega (arith, c.loop-j-test.false, c.loop-j.auto.j-end, c.len-j-end.ensures, c.args.chain.now.costs.ok.0) in
    subst (λ n. IsAdjacencyUpTo c.args._arcs.now c.args._nodes (c.args.begin + n) c.loop-j.adjacency.spans.items c.loop-j.adjacency.steps.items) all c.loop-j.invariant
