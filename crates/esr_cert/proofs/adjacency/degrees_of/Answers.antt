use Rattle.std.proofs.Common.{arith, ◌≡◌, length, map, refl, sym}
use Rattle.esr_cert.specs.Views.{chain_view}
use Rattle.esr_cert.proofs.ChainArcsLaws.{links_here, links_after, starts_first}
use Rattle.esr_cert.proofs.AdjacencyLaws.{counted_none, counted_all}
use Rattle.esr_cert.proofs.adjacency.degrees_of.Goals as goal

pub loop-chain-init : goal.loop-chain-init
loop-chain-init c = record {
  place = sym (starts_first 0 (map chain_view c.chains-source.result.0.now));
  inside = omega arith;
  counted = counted_none c.in_ok-degrees.degrees.items (c.in_ok-degrees.ensures.items_if_clones_equal (λ y e. e));
}

pub count_links-requires-clause-links : goal.count_links-requires-clause-links
count_links-requires-clause-links c = links_here c.chains-source.result.0.now c.chains-source.ensures.chain_arcs c.loop-chain.invariant.place c.loop-chain-test.true c.chain-item.is

pub overflow_add-begin : goal.overflow_add-begin
overflow_add-begin c =
    let here = links_here c.chains-source.result.0.now c.chains-source.ensures.chain_arcs c.loop-chain.invariant.place c.loop-chain-test.true c.chain-item.is in
    omega (arith, here.inside, c.requires.count_within_max, c.len-begin.ensures, c.chain-item.result.costs.ok.0)

pub loop-chain-preserved : goal.loop-chain-preserved
loop-chain-preserved c =
    let size : c.len-begin.result ≡ length c.chain-item.result.costs.items = omega (arith, c.len-begin.ensures, c.chain-item.result.costs.ok.0) in
    let after = links_after c.chains-source.result.0.now c.chains-source.ensures.chain_arcs c.loop-chain.invariant.place c.loop-chain-test.true c.chain-item.is c.len-begin.result size in
    record { place = after.0; inside = after.1; counted = rw size c.count_links.ensures }

pub returns : goal.returns
returns c = counted_all (length c.args.arcs.now) refl c.count_others.ensures
