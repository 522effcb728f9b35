use Rattle.std.proofs.Common.{◌≡◌, take}
use Rattle.esr_cert.proofs.parts.wide.Given as goal

abbrev pub invariant-loop-n : goal.invariant-loop-n
invariant-loop-n l = l.numbers.items ≡ take l.n-index l.positions
