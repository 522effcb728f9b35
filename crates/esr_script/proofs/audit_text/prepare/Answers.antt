use Rattle.std.proofs.Common.{◌≡◌, IfOk, subst, sym, arith, Vec, ℕ}
use Rattle.std.specs.declared.alloc.Global.{Global}
use Rattle.esr_base.specs.Watch.{inner}
use Rattle.esr_script.specs.Audit.{audit_output}
use Rattle.esr_script.specs.Text.{ScriptState, final}
use Rattle.esr_script.proofs.Handed.{handed_on}
use Rattle.esr_script.proofs.Ends.{reached_fault, reached_then}
use Rattle.esr_script.proofs.audit_text.prepare.Goals as goal

pub returns-in_err-script-clause-ready : goal.returns-in_err-script-clause-ready
returns-in_err-script-clause-ready g c input known = rw (handed_on _ _ c.from_residual.ensures.1) (grind (arith, reached_fault))

pub returns-clause-ready : goal.returns-clause-ready
returns-clause-ready g c input known =
    let replayed = c.in_ok-script.ensures.replay input known in
    let made = subst (λ (s : ScriptState). IfOk c.into_audit_output.result (λ (out : Vec ℕ Global). out.items ≡ audit_output s)) (sym replayed.2) c.into_audit_output.ensures.ok in
    reached_then input (g.R.Read.remaining (inner c.replay.new.reader)) (λ (out : Vec ℕ Global). out.items ≡ audit_output (final input)) ⊥ c.into_audit_output.result replayed.0 replayed.1 made c.into_audit_output.ensures.faults
