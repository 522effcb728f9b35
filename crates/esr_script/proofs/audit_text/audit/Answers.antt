use Rattle.std.proofs.Common.{◌≡◌, [], ℕ, Vec, arith, rules}
use Rattle.std.specs.declared.alloc.Global.{Global}
use Rattle.esr_base.specs.Watch.{inner}
use Rattle.esr_script.specs.Audit.{audit_output}
use Rattle.esr_script.specs.Text.{final}
use Rattle.std.proofs.KnownBytes.{Appends-nil}
use Rattle.esr_script.proofs.Handed.{handed_on}
use Rattle.esr_script.proofs.Ends.{written_fault, written_sent}
use Rattle.esr_script.proofs.audit_text.audit.Goals as goal

pub returns-in_err-out : goal.returns-in_err-out
returns-in_err-out g c = rw (handed_on _ _ c.from_residual.ensures.1) record {
  text = λ input known. let left = g.R.Read.remaining (inner c.prepare.new.reader) in
      ([], Appends-nil _, written_fault input left (λ (out : Vec ℕ Global). out.items ≡ audit_output (final input)) _ _ _ (c.in_err-out.ensures.ready input known));
  reader = search rules;
  writer = search rules;
}

pub returns : goal.returns
returns g c = record {
  text = λ input known. grind (arith, written_sent);
  reader = search rules;
  writer = search rules;
}
