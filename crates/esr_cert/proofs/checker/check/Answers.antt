use Rattle.std.proofs.Common.{◌≡◌, Option, Some, None, IsOk, refl, subst}
use Rattle.esr_cert.specs.Certificate.{or_fault}
use Rattle.esr_cert.specs.Views.{certificate_of}
use Rattle.esr_cert.specs.Faults.{Fault}
use Rattle.esr_cert.proofs.Certified.{cost_is, faultless, worth_least}
use Rattle.esr_cert.proofs.checker.check.Goals as goal

none : (fault : Option Fault) → IsOk (or_fault fault) → fault ≡ None
none None ok = refl
none (Some fault) ok = absurd (cc)

pub returns-clause-least : goal.returns-clause-least
returns-clause-least c = λ ok. worth_least c.args.problem.now (certificate_of c.args.certificate.now) c.updates-sound.ensures.well_formed (none _ (subst IsOk c.first_fault.ensures ok))

pub returns-clause-closed : goal.returns-clause-closed
returns-clause-closed c = λ ok. (faultless c.args.problem.now (certificate_of c.args.certificate.now) (none _ (subst IsOk c.first_fault.ensures ok))).closed

pub returns-clause-met : goal.returns-clause-met
returns-clause-met c = λ ok. let p = c.args.problem.now in let q = certificate_of c.args.certificate.now in cost_is p q (faultless p q (none _ (subst IsOk c.first_fault.ensures ok)))
