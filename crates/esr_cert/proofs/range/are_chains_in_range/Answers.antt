use Rattle.std.proofs.Common.{◌∙◌, sym, arith}
use Rattle.esr_cert.specs.Problem.{chain_is_in_range}
use Rattle.esr_cert.specs.Views.{chain_view}
use Rattle.esr_cert.proofs.Steps.{list_all_map_yes, list_all_map_no}
use Rattle.esr_cert.proofs.range.are_chains_in_range.Goals as goal

pub returns-then-not-chain_is_in_range : goal.returns-then-not-chain_is_in_range
returns-then-not-chain_is_in_range c = sym (sym c.loop-chain.invariant ∙ list_all_map_no (chain_is_in_range c.args.n) chain_view c.args.chains.now c.loop-chain.chain-index c.chain-item.result (omega arith) c.chain-item.is (sym c.chain_is_in_range.ensures ∙ c.if-not-chain_is_in_range.true))

pub loop-chain-preserved : goal.loop-chain-preserved
loop-chain-preserved c = sym (list_all_map_yes (chain_is_in_range c.args.n) chain_view c.args.chains.now c.loop-chain.chain-index c.chain-item.result (omega arith) c.chain-item.is (sym c.chain_is_in_range.ensures ∙ c.if-not-chain_is_in_range.false)) ∙ c.loop-chain.invariant
