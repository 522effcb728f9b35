use Rattle.std.proofs.Common.{◌≡◌, drop, map}
use Rattle.std.specs.List.{list_all}
use Rattle.esr_cert.specs.Problem.{chain_is_in_range}
use Rattle.esr_cert.specs.Views.{chain_view}
use Rattle.esr_cert.proofs.range.are_chains_in_range.Given as goal

abbrev pub invariant-loop-chain : goal.invariant-loop-chain
invariant-loop-chain l = list_all (chain_is_in_range l.fn.n) (drop l.chain-index (map chain_view l.chains)) ≡ list_all (chain_is_in_range l.fn.n) (map chain_view l.chains)
