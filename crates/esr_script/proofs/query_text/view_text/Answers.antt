use Rattle.std.proofs.Common.{arith}
use Rattle.esr_base.specs.Watch.{inner}
use Rattle.esr_script.proofs.Handed.{handed_on}
use Rattle.esr_script.proofs.Ends.{reached_fault, reached_made}
use Rattle.esr_script.proofs.query_text.view_text.Goals as goal

pub returns-in_err-audited-clause-text : goal.returns-in_err-audited-clause-text
returns-in_err-audited-clause-text g c input known = rw (handed_on _ _ c.from_residual.ensures.1) (grind (arith, reached_fault))

pub returns-clause-text : goal.returns-clause-text
returns-clause-text g c input known =
    let audited = c.in_ok-audited.ensures.audited input known in
    reached_made input (g.R.Read.remaining (inner c.ask.new.reader)) _ _ _ c.text_of.result c.text_or_fault.result audited.0 audited.1
    (c.text_of.ensures _ _ audited.2) (λ text is. (audited.2.finding.committed, is)) c.text_or_fault.ensures.ok c.text_or_fault.ensures.faults
