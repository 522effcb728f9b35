use Rattle.std.proofs.Common.{◌≡◌, ◌∙◌, ◌+◌, ◌*◌, nat_le, sym, ap, length, sum_by, arith}
use Rattle.std.proofs.lemmas.List.{length-map}
use Rattle.esr_cert.specs.Network.{network}
use Rattle.esr_cert.specs.Certificate.{is_count_in_bound}
use Rattle.esr_cert.specs.Views.{chain_view}
use Rattle.esr_cert.proofs.Sound.{facts, are_bounded}
use Rattle.esr_cert.proofs.Worth.{arc_count}
use Rattle.esr_cert.proofs.checker.is_count_in_bound.Goals as goal

pub arc_count-arcs-requires : goal.arc_count-arcs-requires
arc_count-arcs-requires c = omega (arith, (are_bounded c.args.problem.now c.chains.ensures.well_formed).chains, ap length c.chains.ensures.list, length-map c.chains.result.now chain_view)

pub returns : goal.returns
returns c =
    let p = c.args.problem.now in
    let node_count : length c.updates.result.now + 2 ≡ (network p).node_count = omega (arith, ap length c.updates.ensures.list, length-map c.updates.result.now (λ t. t.0)) in
    let arcs : c.arc_count-arcs.result ≡ length (network p).arcs =
    omega (arith, c.arc_count-arcs.ensures.value, ap (sum_by (λ chain. length chain.costs)) c.chains.ensures.list, arc_count p (facts p c.chains.ensures.well_formed), ap length c.before-2.ensures.list, ap length c.must.ensures.list) in
    let limit : (length c.updates.result.now + 2) * c.arc_count-arcs.result ≡ (network p).node_count * length (network p).arcs =
    ap (λ n. n * c.arc_count-arcs.result) node_count ∙ ap (λ n. (network p).node_count * n) arcs in
    ap (λ n. nat_le n ((length c.updates.result.now + 2) * c.arc_count-arcs.result)) c.from.ensures
    ∙ ap (nat_le c.in-Some.count) limit
    ∙ ap (is_count_in_bound p) (sym c.in-Some.is)
