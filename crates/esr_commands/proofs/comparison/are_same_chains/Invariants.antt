use Rattle.std.proofs.Common.{◌≡◌, take, map}
use Rattle.esr_cert.specs.Views.{chain_view}
use Rattle.esr_commands.proofs.comparison.are_same_chains.Given as goal

abbrev pub invariant-loop-i : goal.invariant-loop-i
invariant-loop-i l = map chain_view (take l.i l.a) ≡ map chain_view (take l.i l.b)
