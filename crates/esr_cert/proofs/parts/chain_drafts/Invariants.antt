use Rattle.std.proofs.Common.{◌≡◌, take, map}
use Rattle.esr_cert.specs.Views.{chain_view}
use Rattle.esr_cert.specs.ProblemDrafts.{drafted_chain}
use Rattle.esr_cert.proofs.parts.chain_drafts.Given as goal

abbrev pub invariant-loop-chain : goal.invariant-loop-chain
invariant-loop-chain l = map drafted_chain l.drafts.items ≡ map chain_view (take l.chain-index l.chains)
