use Rattle.esr_drive.proofs.Texts.{history_written, text_written}
use Rattle.esr_drive.proofs.pipeline.text_from.Goals as goal

pub returns-in-Text : goal.returns-in-Text
returns-in-Text g c = text_written c.args.form _ _ _ _ _ c.in-Text.is c.answers_from.ensures

pub returns-in-Script : goal.returns-in-Script
returns-in-Script g c = history_written c.args.form _ _ _ _ c.in-Script.is c.script_from.ensures
