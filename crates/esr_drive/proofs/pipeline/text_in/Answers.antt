use Rattle.std.proofs.Common.{map}
use Rattle.esr_drive.proofs.Texts.{text_fault, engine_fault, drive_text}
use Rattle.esr_drive.proofs.pipeline.text_in.Goals as goal

pub returns-in-Err-clause-faults : goal.returns-in-Err-clause-faults
returns-in-Err-clause-faults g c = text_fault c.args.bytes.now c.in-Err.fault c.in-Err.ensures.err

pub returns-in-Ok-text_from-clause-text : goal.returns-in-Ok-text_from-clause-text
returns-in-Ok-text_from-clause-text g c =
    drive_text c.args.form c.args.bytes.now c.in-Ok.drive_plan c.in-Ok-run_plan.driven.history.schedule (map (λ r. r.items) c.in-Ok-run_plan.driven.replies.items) c.in-Ok-text_from.text c.in-Ok.ensures.plan c.in-Ok.ensures.sound c.in-Ok-run_plan.ensures.ok c.in-Ok-text_from.ensures

pub returns-in-Err-run_plan-clause-faults : goal.returns-in-Err-run_plan-clause-faults
returns-in-Err-run_plan-clause-faults g c = engine_fault c.args.bytes.now c.in-Ok.drive_plan c.in-Err-run_plan.fault c.in-Ok.ensures.plan c.in-Err-run_plan.ensures.err
