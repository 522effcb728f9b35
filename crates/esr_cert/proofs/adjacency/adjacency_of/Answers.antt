use Rattle.std.proofs.Common.{arith, ◌≡◌, length, refl}
use Rattle.esr_cert.proofs.ChainArcsLaws.{links_here, links_after}
use Rattle.esr_cert.proofs.IsAdjacencyUpTo.{laid_rows, laid_steps}
use Rattle.esr_cert.proofs.adjacency.adjacency_of.Goals as goal

pub lay_links-requires-clause-links : goal.lay_links-requires-clause-links
lay_links-requires-clause-links c = links_here c.chains-source.result.0.now c.chains-source.ensures.chain_arcs c.loop-chain.invariant.place c.loop-chain-test.true c.chain-item.is

pub overflow_add-begin : goal.overflow_add-begin
overflow_add-begin c =
    let here = links_here c.chains-source.result.0.now c.chains-source.ensures.chain_arcs c.loop-chain.invariant.place c.loop-chain-test.true c.chain-item.is in
    omega (arith, here.inside, c.requires.count_within_max, c.len-in-loop-chain.ensures, c.chain-item.result.costs.ok.0)

pub loop-chain-preserved : goal.loop-chain-preserved
loop-chain-preserved c =
    let size : c.len-in-loop-chain.result ≡ length c.chain-item.result.costs.items = omega (arith, c.len-in-loop-chain.ensures, c.chain-item.result.costs.ok.0) in
    let after = links_after c.chains-source.result.0.now c.chains-source.ensures.chain_arcs c.loop-chain.invariant.place c.loop-chain-test.true c.chain-item.is c.len-in-loop-chain.result size in
    record { place = after.0; inside = after.1; adjacency = rw size c.lay_links.ensures }

pub returns-clause-adjacency : goal.returns-clause-adjacency
returns-clause-adjacency c = laid_rows refl c.lay_others.ensures

pub returns-clause-steps : goal.returns-clause-steps
returns-clause-steps c = laid_steps c.requires.count_within_max refl c.lay_others.ensures
