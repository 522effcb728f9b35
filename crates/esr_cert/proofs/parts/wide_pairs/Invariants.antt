use Rattle.std.proofs.Common.{◌≡◌, take}
use Rattle.esr_cert.proofs.parts.wide_pairs.Given as goal

abbrev pub invariant-loop-u : goal.invariant-loop-u
invariant-loop-u l = l.numbers.items ≡ take l.u-index l.pairs
