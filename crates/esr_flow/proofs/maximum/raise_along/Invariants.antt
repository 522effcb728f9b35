use Rattle.std.proofs.Common.{◌≡◌, take}
use Rattle.esr_flow.specs.Residual.{raise}
use Rattle.esr_flow.specs.ResidualGraph.{AreEntries}
use Rattle.esr_flow.proofs.maximum.raise_along.Given as goal

abbrev pub invariant-loop-step : goal.invariant-loop-step
invariant-loop-step l = (l.flow ≡ raise l.initial.flow l.amount (take l.step-index l.path)) × AreEntries l.graph l.flow l.entries
