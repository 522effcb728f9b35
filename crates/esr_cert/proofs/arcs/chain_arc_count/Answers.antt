use Rattle.std.proofs.Common.{◌∙◌, length, arith}
use Rattle.esr_cert.specs.Views.{chain_view}
use Rattle.esr_cert.proofs.Steps.{sum_step}
use Rattle.esr_cert.proofs.arcs.chain_arc_count.Goals as goal

pub loop-chain-preserved : goal.loop-chain-preserved
loop-chain-preserved c =
    let costs = c.chain-item.result.costs in
    record {
      value = sum_step (λ chain. length chain.costs) chain_view c.args.chains.now c.loop-chain.chain-index c.chain-item.result (omega arith) c.chain-item.is c.loop-chain.invariant.value (c.len.ensures ∙ costs.ok.0);
      small = omega (arith, c.loop-chain.invariant.small, c.len.ensures, costs.ok.1, costs.small);
    }
