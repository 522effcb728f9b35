use Rattle.std.proofs.Common.{◌≡◌, ◌∙◌, ap, get_or, arith}
use Rattle.esr_cert.specs.Problem.{in_set, version, chain_cost}
use Rattle.esr_cert.specs.Views.{chain_view}
use Rattle.esr_cert.proofs.Steps.{sum_step}
use Rattle.esr_cert.proofs.checker.set_cost.Goals as goal

pub loop-chain-preserved : goal.loop-chain-preserved
loop-chain-preserved c =
    let chain = c.chain-item.result in
    let more : c.from-sum.result ≡ chain_cost (in_set c.args.set.now) (chain_view chain) =
    c.from-sum.ensures
    ∙ c.amount_or_zero.ensures
    ∙ ap (λ costs. get_or costs c.version-version.result 0) c.deref-in-loop-chain.ensures.value
    ∙ ap (λ n. get_or chain.costs.items n 0) (c.version-version.ensures ∙ ap (version (in_set c.args.set.now)) c.deref.ensures.value) in
    record {
      value = sum_step (chain_cost (in_set c.args.set.now)) chain_view c.args.chains.now c.loop-chain.chain-index chain (omega arith) c.chain-item.is c.loop-chain.invariant.value more;
      small = omega (arith, c.loop-chain.invariant.small, c.from-sum.ensures);
    }
