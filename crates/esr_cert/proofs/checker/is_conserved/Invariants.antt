use Rattle.std.proofs.Common.{◌≡◌, ℕ, ◌<◌, true}
use Rattle.esr_cert.specs.Network.{network}
use Rattle.esr_cert.specs.Flow.{is_conserved_at}
use Rattle.esr_cert.specs.Certificate.{amounts}
use Rattle.esr_cert.specs.Views.{certificate_of}
use Rattle.esr_cert.proofs.checker.is_conserved.Given as goal

abbrev pub invariant-loop-v : goal.invariant-loop-v
invariant-loop-v l =
    (u : ℕ) → u < l.v → is_conserved_at (network l.problem).arcs (amounts (certificate_of l.certificate)) u ≡ true
