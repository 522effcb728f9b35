use Rattle.esr_cert.specs.Views.{certificate_of}
use Rattle.esr_bundle.proofs.Verdicts.{valid, invalid, bad}
use Rattle.esr_bundle.proofs.judgement.verdict_of.Goals as goal

pub returns-in-Ok-check : goal.returns-in-Ok-check
returns-in-Ok-check c = valid c.args.bytes.now c.in-Ok.problem (certificate_of c.in-Ok.certificate) c.in-Ok-check.field-0 c.in-Ok.ensures c.in-Ok-check.ensures.answer

pub returns-in-Ok : goal.returns-in-Ok
returns-in-Ok c = invalid c.args.bytes.now c.in-Ok.problem (certificate_of c.in-Ok.certificate) c.in-Err-check.fault c.number.result c.in-Ok.ensures c.in-Err-check.ensures.answer c.number.ensures

pub returns : goal.returns
returns c = bad c.args.bytes.now c.in-Err.fault c.bad.result c.bad.ensures.ok c.bad.ensures.memory c.in-Err.ensures
