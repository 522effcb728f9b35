use Rattle.std.proofs.Common.{arith, ◌≡◌, ℕ, ◌+◌, ◌∙◌, ap, sym, length}
use Rattle.std.proofs.lemmas.List.{length-map}
use Rattle.esr_cert.specs.Problem.{update_count}
use Rattle.esr_cert.proofs.Sound.{facts}
use Rattle.esr_flow.proofs.GraphLaws.{graph_is}
use Rattle.esr_flow.proofs.network.graph_of.Goals as goal

pub invariant_of-result : goal.invariant_of-result
invariant_of-result c =
    let p = c.args.problem.now in
    let n : ℕ = length c.updates-source.result.now in
    let count : n ≡ update_count p = sym (length-map c.updates-source.result.now (λ t. t.0)) ∙ ap length c.updates-source.ensures.list in
    record { kept = graph_is p (n + 2) n (n + 1) (omega (arith, count)) count (omega (arith, count)) (facts p c.updates-source.ensures.well_formed) c.adjacency.result.now c.adjacency.ensures.adjacency (omega (arith, count, c.updates-source.ensures.count_within_max)) }
