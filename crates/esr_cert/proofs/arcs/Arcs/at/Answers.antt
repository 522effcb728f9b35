use Rattle.std.proofs.Common.{arith, ◌∙◌, ◌<◌, get_or, length, ap, sym, subst}
use Rattle.esr_cert.specs.Network.{arc_at}
use Rattle.esr_cert.proofs.ArcsLaws.{updates_bounded, count_is, chains_bounded, row_in_chains, chain_whole, place_in_chain, link_of, pair_is, must_inside, must_is}
use Rattle.esr_cert.proofs.arcs.Arcs.at.Goals as goal

pub overflow_cast-source : goal.overflow_cast-source
overflow_cast-source c = omega (arith, updates_bounded c.self.inside.updates.now c.self.inside.before.now c.self.inside.chains.now c.self.inside.must.now c.self.invariant.0 c.self.inside.chain_starts.now c.self.invariant.1)

pub bounds-self-inside-self-inside : goal.bounds-self-inside-self-inside
bounds-self-inside-self-inside c = omega (arith, count_is c.self.inside.updates.now c.self.inside.before.now c.self.inside.chains.now c.self.inside.must.now c.self.invariant.0 c.self.inside.chain_starts.now c.self.invariant.1)

pub offset_bounds-self-inside-chain-then-number-first_pair_arc : goal.offset_bounds-self-inside-chain-then-number-first_pair_arc
offset_bounds-self-inside-chain-then-number-first_pair_arc c =
    omega (
      arith,
      row_in_chains c.self.inside.updates.now c.self.inside.before.now c.self.inside.chains.now c.self.inside.must.now c.self.invariant.0 c.self.inside.chain_starts.now c.self.invariant.1 c.args.number c.chain_of_arc-chain.result c.if-number-first_pair_arc.true c.chain_of_arc-chain.ensures.bound c.chain_of_arc-chain.ensures.begun c.chain_of_arc-chain.ensures.last,
      chains_bounded c.self.inside.updates.now c.self.inside.before.now c.self.inside.chains.now c.self.inside.must.now c.self.invariant.0 c.self.inside.chain_starts.now c.self.invariant.1,
    )

pub bounds-self-inside-chain-then-number-first_pair_arc : goal.bounds-self-inside-chain-then-number-first_pair_arc
bounds-self-inside-chain-then-number-first_pair_arc c =
    row_in_chains c.self.inside.updates.now c.self.inside.before.now c.self.inside.chains.now c.self.inside.must.now c.self.invariant.0 c.self.inside.chain_starts.now c.self.invariant.1 c.args.number c.chain_of_arc-chain.result c.if-number-first_pair_arc.true c.chain_of_arc-chain.ensures.bound c.chain_of_arc-chain.ensures.begun c.chain_of_arc-chain.ensures.last

pub chain_arc_at-requires-clause-one_more_cost : goal.chain_arc_at-requires-clause-one_more_cost
chain_arc_at-requires-clause-one_more_cost c =
    chain_whole c.self.inside.updates.now c.self.inside.before.now c.self.inside.chains.now c.self.inside.must.now c.self.invariant.0 c.self.inside.chain_starts.now c.self.invariant.1 c.args.number c.chain_of_arc-chain.result c.if-number-first_pair_arc.true c.chain_of_arc-chain.ensures.bound c.chain_of_arc-chain.ensures.begun c.chain_of_arc-chain.ensures.last (get_or c.self.inside.chains.now c.chain_of_arc-chain.result c.index-self-chain.result) (ap (get_or c.self.inside.chains.now c.chain_of_arc-chain.result) c.index-self-chain.is)

pub chain_arc_at-requires-clause-in_range : goal.chain_arc_at-requires-clause-in_range
chain_arc_at-requires-clause-in_range c =
    place_in_chain c.self.inside.updates.now c.self.inside.before.now c.self.inside.chains.now c.self.inside.must.now c.self.invariant.0 c.self.inside.chain_starts.now c.self.invariant.1 c.args.number c.chain_of_arc-chain.result c.if-number-first_pair_arc.true c.chain_of_arc-chain.ensures.bound c.chain_of_arc-chain.ensures.begun c.chain_of_arc-chain.ensures.last (get_or c.self.inside.chains.now c.chain_of_arc-chain.result c.index-self-chain.result) (ap (get_or c.self.inside.chains.now c.chain_of_arc-chain.result) c.index-self-chain.is)

pub chain_arc_at-requires-clause-source_within_max : goal.chain_arc_at-requires-clause-source_within_max
chain_arc_at-requires-clause-source_within_max c = updates_bounded c.self.inside.updates.now c.self.inside.before.now c.self.inside.chains.now c.self.inside.must.now c.self.invariant.0 c.self.inside.chain_starts.now c.self.invariant.1

pub returns-then-number-first_pair_arc : goal.returns-then-number-first_pair_arc
returns-then-number-first_pair_arc c =
    c.chain_arc_at.ensures
    ∙ link_of c.self.inside.updates.now c.self.inside.before.now c.self.inside.chains.now c.self.inside.must.now c.self.invariant.0 c.self.inside.chain_starts.now c.self.invariant.1 c.args.number c.chain_of_arc-chain.result c.if-number-first_pair_arc.true c.chain_of_arc-chain.ensures.bound c.chain_of_arc-chain.ensures.begun c.chain_of_arc-chain.ensures.last (get_or c.self.inside.chains.now c.chain_of_arc-chain.result c.index-self-chain.result) (ap (get_or c.self.inside.chains.now c.chain_of_arc-chain.result) c.index-self-chain.is)
    ∙ ap (λ arcs. arc_at arcs c.args.number) c.self.view_is

pub bounds-self-inside-i-else-i-self : goal.bounds-self-inside-i-else-i-self
bounds-self-inside-i-else-i-self c = must_inside c.self.inside.updates.now c.self.inside.before.now c.self.inside.chains.now c.self.inside.must.now c.self.invariant.0 c.self.inside.chain_starts.now c.self.invariant.1 c.args.number c.if-number-first_pair_arc.false (subst (λ arcs. c.args.number < length arcs) (sym c.self.view_is) c.requires) c.if-i-self.false

pub returns-then-i-self : goal.returns-then-i-self
returns-then-i-self c = pair_is c.self.inside.updates.now c.self.inside.before.now c.self.inside.chains.now c.self.inside.must.now c.self.invariant.0 c.self.inside.chain_starts.now c.self.invariant.1 c.args.number c.if-number-first_pair_arc.false c.if-i-self.true
    ∙ ap (λ arcs. arc_at arcs c.args.number) c.self.view_is

pub returns-else-i-self : goal.returns-else-i-self
returns-else-i-self c = must_is c.self.inside.updates.now c.self.inside.before.now c.self.inside.chains.now c.self.inside.must.now c.self.invariant.0 c.self.inside.chain_starts.now c.self.invariant.1 c.args.number c.if-number-first_pair_arc.false (subst (λ arcs. c.args.number < length arcs) (sym c.self.view_is) c.requires) c.if-i-self.false
    ∙ ap (λ arcs. arc_at arcs c.args.number) c.self.view_is
