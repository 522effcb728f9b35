use Rattle.std.proofs.Common.{IfOk, subst, sym, arith, Vec, ℕ}
use Rattle.std.specs.declared.alloc.Global.{Global}
use Rattle.esr_base.specs.Watch.{inner}
use Rattle.esr_script.specs.Text.{ScriptState}
use Rattle.esr_script.proofs.Handed.{handed_on}
use Rattle.esr_script.proofs.Ends.{reached_fault, reached_or_none}
use Rattle.esr_script.proofs.script_text.script_view_text.Goals as goal

pub returns-in_err-script-clause-text : goal.returns-in_err-script-clause-text
returns-in_err-script-clause-text g c input known = rw (handed_on _ _ c.from_residual.ensures.1) (grind (arith, reached_fault))

pub returns-clause-text : goal.returns-clause-text
returns-clause-text g c input known =
    let replayed = c.in_ok-script.ensures.replay input known in
    let made = subst (λ (s : ScriptState). IfOk c.text_of.result (λ (text : Vec ℕ Global). g.S.ScriptView.IsTextOf c.args.render_script.now s text.items)) (sym replayed.2) c.text_of.ensures.text in
    reached_or_none input (g.R.Read.remaining (inner c.replay.new.reader)) _ c.text_of.result replayed.0 replayed.1 made c.text_of.ensures.faults
