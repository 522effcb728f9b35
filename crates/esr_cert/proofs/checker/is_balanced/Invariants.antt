use Rattle.std.proofs.Common.{◌≡◌, ◌≤◌, ◌*◌, take, sum_by}
use Rattle.esr_cert.specs.FlowConservation.{amount_in, amount_out}
use Rattle.esr_cert.specs.Certificate.{amounts}
use Rattle.esr_cert.specs.Views.{certificate_of}
use Rattle.esr_cert.proofs.checker.is_balanced.Given as goal

abbrev pub invariant-loop-step : goal.invariant-loop-step
invariant-loop-step l = record {
  into : l.into ≡ sum_by (amount_in (amounts (certificate_of l.certificate))) (take l.step-index l.steps);
  from : l.from ≡ sum_by (amount_out (amounts (certificate_of l.certificate))) (take l.step-index l.steps);
  into_small : l.into ≤ l.step-index * 18446744073709551615;
  from_small : l.from ≤ l.step-index * 18446744073709551615;
}
