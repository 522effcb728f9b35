use Rattle.esr_script.proofs.Unread.{passed}
use Rattle.esr_script.proofs.script.Script.answer_in_text.Goals as goal

pub returns-in-Command-Audit-clause-state : goal.returns-in-Command-Audit-clause-state
returns-in-Command-Audit-clause-state c =
    let read = rw c.in-Command-Audit.is at c.requires in
    let audit = rw c.in-Command-Audit.is at c.in-Command-Audit.field-0-is in
    passed c.args.self.now c.pass_audit.new.self c.args.line.now read.0 c.in-Command-Audit.txn.now (rw audit at read.1) _ c.pass_audit.ensures.ok c.pass_audit.ensures.faults
