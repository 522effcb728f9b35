use Rattle.esr_script.proofs.script_text.text_about.Goals as goal

pub returns-in-Ok-Some-clause-text : goal.returns-in-Ok-Some-clause-text
returns-in-Ok-Some-clause-text g c s recorded = rw c.in-Ok-Some.field-0-is at (c.in-Ok-Some.ensures s recorded)
