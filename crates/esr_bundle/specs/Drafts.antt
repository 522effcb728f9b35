-- A certificate as it was read, as contracts see it.
use Rattle.esr_cert.specs.Certificate as certificates
use Rattle.esr_cert.specs.Views.{certificate_from}
use Rattle.esr_bundle.specs.declared.draft.CertificateDraft.{CertificateDraft}

abbrev pub drafted_certificate : CertificateDraft → certificates.Certificate
drafted_certificate c =
    certificate_from c.set.items c.chain_flow.items c.back_flow.items c.must_flow.items c.worth c.augmentations
