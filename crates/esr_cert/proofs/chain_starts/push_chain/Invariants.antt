use Rattle.std.proofs.Common.{◌≡◌, ◌++◌, replicate}
use Rattle.esr_cert.proofs.chain_starts.push_chain.Given as goal

abbrev pub invariant-loop : goal.invariant-loop
invariant-loop l = l.chain_by_arc.items ≡ l.initial.chain_by_arc.items ++ replicate l.counter l.chain
