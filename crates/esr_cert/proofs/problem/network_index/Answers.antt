use Rattle.std.proofs.Common.{arith, ◌≡◌, ◌+◌, ◌∙◌, ap, sym, subst, length, map, sum_by}
use Rattle.std.proofs.lemmas.List.{length-map}
use Rattle.esr_cert.specs.Problem.{Problem}
use Rattle.esr_cert.specs.Network.{network, EndsAreNodes}
use Rattle.esr_cert.specs.ChainStarts.{chain_starts_from}
use Rattle.esr_cert.specs.Views.{chain_view, problem_of_parts}
use Rattle.esr_cert.proofs.Sound.{facts, are_bounded}
use Rattle.esr_cert.proofs.Worth.{arc_count}
use Rattle.esr_cert.proofs.Least.{is_network}
use Rattle.esr_cert.proofs.ArcsLaws.{costs_count, count_is}
use Rattle.esr_cert.proofs.problem.network_index.Goals as goal

pub arc_count-requires : goal.arc_count-requires
arc_count-requires c =
    let p : Problem = problem_of_parts c.args.parts.now in
    omega (arith, (are_bounded p c.requires.well_formed).chains, length-map c.args.parts.now.chains.items chain_view, ap length c.deref-2.ensures.value)

pub chain_starts_of-requires : goal.chain_starts_of-requires
chain_starts_of-requires c =
    omega (
      arith,
      c.if-arc_count.false,
      c.arc_count.ensures.value,
      costs_count c.args.parts.now.chains.items,
      ap (λ list. sum_by (λ chain. length chain.costs.items) list) c.deref-4.ensures.value,
      ap (λ list. sum_by (λ chain. length chain.costs) (map chain_view list)) c.deref-2.ensures.value,
    )

pub index-requires : goal.index-requires
index-requires c =
    omega (arith, count_is c.args.parts.now.updates.items c.args.parts.now.before.items c.args.parts.now.chains.items c.args.parts.now.must.items c.requires.well_formed c.in_ok-chain_starts.chain_starts.items (c.in_ok-chain_starts.ensures ∙ ap (λ list. chain_starts_from 0 (map chain_view list)) c.deref-4.ensures.value), c.len.ensures, c.args.parts.now.chains.ok.0, c.in_ok-chain_starts.chain_starts.ok.0)

pub chain_by_arc_of-requires : goal.chain_by_arc_of-requires
chain_by_arc_of-requires c =
    let p : Problem = problem_of_parts c.args.parts.now in
    omega (arith, (are_bounded p c.requires.well_formed).chains, length-map c.args.parts.now.chains.items chain_view, ap length c.deref-5.ensures.value)

pub adjacency_of-requires-clause-count_within_max : goal.adjacency_of-requires-clause-count_within_max
adjacency_of-requires-clause-count_within_max c =
    let p : Problem = problem_of_parts c.args.parts.now in
    omega (
      arith,
      ap length c.arcs_of.ensures,
      arc_count p (facts p c.requires.well_formed),
      c.if-arc_count.false,
      c.arc_count.ensures.value,
      ap (λ list. sum_by (λ chain. length chain.costs) (map chain_view list)) c.deref-2.ensures.value,
      ap length c.deref.ensures.value,
      ap length c.deref-3.ensures.value,
    )

pub adjacency_of-requires-clause-ends : goal.adjacency_of-requires-clause-ends
adjacency_of-requires-clause-ends c =
    let p : Problem = problem_of_parts c.args.parts.now in
    let node_count : c.len-2.result + 2 ≡ (network p).node_count = omega (arith, length-map c.args.parts.now.updates.items (λ t. t.0), c.len-2.ensures, c.args.parts.now.updates.ok.0) in
    subst (λ arcs. EndsAreNodes arcs (c.len-2.result + 2)) (sym c.arcs_of.ensures)
    (subst (EndsAreNodes (network p).arcs) (sym node_count) (is_network p (facts p c.requires.well_formed)).ends)
