use Rattle.std.proofs.Common.{◌≡◌, drop}
use Rattle.esr_cert.specs.Network.{network}
use Rattle.esr_flow.specs.Residual.{smaller, bottleneck}
use Rattle.esr_flow.proofs.maximum.bottleneck_of.Given as goal

abbrev pub invariant-loop-step : goal.invariant-loop-step
invariant-loop-step l = smaller l.least (bottleneck (network l.problem).arcs l.flow (drop l.step-index l.path)) ≡ bottleneck (network l.problem).arcs l.flow l.path
