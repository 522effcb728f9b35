use Rattle.std.proofs.Common.{◌≡◌, IfOk, subst, sym, arith}
use Rattle.esr_base.specs.Watch.{inner}
use Rattle.esr_script.specs.Audit.{IsAuditedScript}
use Rattle.esr_script.specs.Text.{ScriptState, final}
use Rattle.esr_script.proofs.Handed.{handed_on}
use Rattle.esr_script.proofs.Ends.{reached_fault, reached_then}
use Rattle.esr_script.proofs.audit_text.audit_silently.Goals as goal

pub returns-in_err-script-clause-audited : goal.returns-in_err-script-clause-audited
returns-in_err-script-clause-audited g c input known = rw (handed_on _ _ c.from_residual.ensures.1) (grind (arith, reached_fault))

pub returns-clause-audited : goal.returns-clause-audited
returns-clause-audited g c input known =
    let replayed = c.in_ok-script.ensures.replay input known in
    let made = subst (λ (s : ScriptState). IfOk c.into_audited.result (IsAuditedScript s)) (sym replayed.2) c.into_audited.ensures.audited in
    reached_then input (g.R.Read.remaining (inner c.replay.new.reader)) (IsAuditedScript (final input)) ⊥ c.into_audited.result replayed.0 replayed.1 made c.into_audited.ensures.faults
