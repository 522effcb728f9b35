use Rattle.std.proofs.Common.{sym, subst}
use Rattle.esr_cert.specs.Views.{certificate_of}
use Rattle.esr_script.specs.Replays.{IsLineOf}
use Rattle.esr_script.proofs.bundles.bundle_line.Goals as goal

pub returns : goal.returns
returns c =
    subst (λ steps. IsLineOf steps c.args.finding.now c.in_ok-line.line.items) (sym c.if-not-steps.false)
    (certificate_of c.in-Ok.certificate, c.in-Ok.ensures.certifies, c.in-Ok.ensures.least, c.in-Ok.ensures.counted, c.in_ok-line.ensures)
