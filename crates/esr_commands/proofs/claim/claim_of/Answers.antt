use Rattle.std.proofs.Common.{◌≡◌, Ok}
use Rattle.esr_cert.specs.Views.{certificate_of}
use Rattle.esr_commands.specs.declared.claim.BundleClaim.TheVariants.{Of}
use Rattle.esr_commands.proofs.Claimed.{claims_bad, shown_by}
use Rattle.esr_commands.proofs.claim.claim_of.Goals as goal

pub returns-in-Ok-clause-claim : goal.returns-in-Ok-clause-claim
returns-in-Ok-clause-claim c = (Ok (c.in-Ok.problem, certificate_of c.in-Ok.certificate), c.in-Ok.ensures, c.claim_on.ensures)

pub returns-in-Ok-clause-shows : goal.returns-in-Ok-clause-shows
returns-in-Ok-clause-shows c s name answered worth is =
    let same : c.claim_on.result ≡ Of worth = cc in
    shown_by s name c.args.asked.now c.args.bytes.now (c.in-Ok.problem, certificate_of c.in-Ok.certificate) c.claim_on.result worth answered
    c.log-invariant.ensures.range c.log-invariant.ensures.legal c.updates-sound.ensures.well_formed c.in-Ok.ensures c.claim_on.ensures same

pub returns-in-Err-clause-claim : goal.returns-in-Err-clause-claim
returns-in-Err-clause-claim c = claims_bad c.args.asked.now.finding.problem c.args.bytes.now c.in-Err.fault c.bad.result c.bad.ensures.ok c.bad.ensures.memory c.in-Err.ensures
