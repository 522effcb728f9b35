use Rattle.std.proofs.Common.{arith, length, ap, sym, ◌∙◌}
use Rattle.std.proofs.lemmas.List.{length-map}
use Rattle.esr_cert.specs.Certificate.{amounts}
use Rattle.esr_cert.specs.Views.{certificate_of}
use Rattle.esr_cert.proofs.FlowConservation.{all_conserved, one_not}
use Rattle.esr_cert.proofs.checker.is_conserved.Goals as goal

pub is_conserved_at-requires : goal.is_conserved_at-requires
is_conserved_at-requires c = record { within = c.requires; update = omega (arith, c.loop-v-test.true, ap length c.updates-v-end.ensures.list, length-map c.updates-v-end.result.now (λ t. t.0)) }

pub returns-then-not-is_conserved_at : goal.returns-then-not-is_conserved_at
returns-then-not-is_conserved_at c =
    sym (one_not c.args.problem.now (amounts (certificate_of c.args.certificate.now)) c.loop-v.v (omega (arith, c.loop-v-test.true, ap length c.updates-v-end.ensures.list, length-map c.updates-v-end.result.now (λ t. t.0))) (sym c.is_conserved_at.ensures ∙ c.if-not-is_conserved_at.true))

pub returns : goal.returns
returns c =
    sym (all_conserved c.args.problem.now (amounts (certificate_of c.args.certificate.now)) (λ v l. c.loop-v.invariant v (omega (arith, l, c.loop-v-test.false, ap length c.updates-v-end.ensures.list, length-map c.updates-v-end.result.now (λ t. t.0)))))
