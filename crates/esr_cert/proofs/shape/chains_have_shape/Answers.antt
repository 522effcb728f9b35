use Rattle.std.proofs.Common.{◌∙◌, sym, arith}
use Rattle.esr_cert.specs.Problem.{chain_has_shape}
use Rattle.esr_cert.specs.ProblemDrafts.{drafted_chain}
use Rattle.esr_cert.proofs.Steps.{list_all_map_yes, list_all_map_no}
use Rattle.esr_cert.proofs.shape.chains_have_shape.Goals as goal

pub returns-then-not-chain_has_shape : goal.returns-then-not-chain_has_shape
returns-then-not-chain_has_shape c = sym (sym c.loop-chain.invariant ∙ list_all_map_no (chain_has_shape c.args.before.now) drafted_chain c.args.chains.now c.loop-chain.chain-index c.chain-item.result (omega arith) c.chain-item.is (sym c.chain_has_shape.ensures ∙ c.if-not-chain_has_shape.true))

pub loop-chain-preserved : goal.loop-chain-preserved
loop-chain-preserved c = sym (list_all_map_yes (chain_has_shape c.args.before.now) drafted_chain c.args.chains.now c.loop-chain.chain-index c.chain-item.result (omega arith) c.chain-item.is (sym c.chain_has_shape.ensures ∙ c.if-not-chain_has_shape.false)) ∙ c.loop-chain.invariant
