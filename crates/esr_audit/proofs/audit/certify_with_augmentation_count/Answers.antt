use Rattle.std.proofs.Common.{subst, rules}
use Rattle.esr_cert.specs.Problem.{Problem}
use Rattle.esr_cert.specs.Network.{network}
use Rattle.esr_cert.specs.Certificate.{amounts}
use Rattle.esr_cert.specs.Views.{certificate_of}
use Rattle.esr_flow.specs.Augmentation.{AugmentsFromZero}
use Rattle.esr_audit.proofs.audit.certify_with_augmentation_count.Goals as goal

pub returns-clause-counted : goal.returns-clause-counted
returns-clause-counted c =
    let s = c.in_ok-solve.field-0 in
    (s.augmentations, c.in_ok-solve.ensures.count, subst (λ (p : Problem). AugmentsFromZero (network p) s.augmentations (amounts (certificate_of s.certificate))) c.in_ok-network.ensures c.in_ok-solve.ensures.takes)

pub returns-clause-certifies : goal.returns-clause-certifies
returns-clause-certifies c = search rules

pub returns-clause-least : goal.returns-clause-least
returns-clause-least c = search rules
