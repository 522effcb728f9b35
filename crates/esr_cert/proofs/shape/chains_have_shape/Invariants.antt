use Rattle.std.proofs.Common.{◌≡◌, drop, map}
use Rattle.std.specs.List.{list_all}
use Rattle.esr_cert.specs.Problem.{chain_has_shape}
use Rattle.esr_cert.specs.ProblemDrafts.{drafted_chain}
use Rattle.esr_cert.proofs.shape.chains_have_shape.Given as goal

abbrev pub invariant-loop-chain : goal.invariant-loop-chain
invariant-loop-chain l = list_all (chain_has_shape l.before) (drop l.chain-index (map drafted_chain l.chains)) ≡ list_all (chain_has_shape l.before) (map drafted_chain l.chains)
